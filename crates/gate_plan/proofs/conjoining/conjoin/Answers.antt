use Rattle.std.proofs.Common.{rules, ◌≡◌, ◌<◌, ◌-◌, ◌^◌, ◌∙◌, List, Err, OnOk, ap, subst}
use Rattle.std.proofs.lemmas.Result.{IfErr-weaker, IfOk-weaker, on_ok_weaker}
use Rattle.req_table.specs.ComputedTables.{ComputedView}
use Rattle.expand_work.specs.declared.fault.WaveFault.TheVariants.{TooManyRequests}
use Rattle.expand_work.specs.Bounds.{most_of}
use Rattle.wave_engine.specs.Bounds.{AreAtMost, ArePast}
use Rattle.gate_plan.specs.Conjoining.{conjunctions}
use Rattle.reduce_up.specs.Waves.{Entry, AnswersEach, IsWaveFault, IsWithinLimit}
use Rattle.gate_plan.proofs.Conjoined.{conjoined, entries_known, past_all, at_most_all}
use Rattle.wave_engine.proofs.Probing.{fault_of_all, within_all}
use Rattle.gate_plan.proofs.conjoining.conjoin.Goals as goal

pub wave-requires-clause-operands : goal.wave-requires-clause-operands
wave-requires-clause-operands g c κs within =
    entries_known c.args.store.now c.args.references.now c.args.given c.as_slice.result.now c.requires.references c.requires.given (c.as_slice.ensures.value ∙ c.in_ok-entries.ensures)

pub returns-clause-conjoined : goal.returns-clause-conjoined
returns-clause-conjoined g c =
    IfOk-weaker c.wave.result _ _
    (λ answers h.
    conjoined c.args.store.now c.wave.new.store c.args.given c.args.references.now answers.items
    (subst (λ (z : List Entry). AnswersEach c.args.store.now z c.wave.new.store answers.items) (c.as_slice.ensures.value ∙ c.in_ok-entries.ensures) h))
    c.wave.ensures.wave.answers

pub returns-clause-within : goal.returns-clause-within
returns-clause-within g c =
    on_ok_weaker c.wave.result
    (λ h.
    subst (λ z. IsWithinLimit c.args.store.now z c.wave.new.store) (c.as_slice.ensures.value ∙ c.in_ok-entries.ensures)
    (within_all c.args.store.now c.wave.new.store c.in_ok-computed.computed c.as_slice.result.now (ap (λ (m : ComputedView). m.pairs) c.in_ok-computed.ensures.empty) h))
    c.wave.ensures.wave.within

pub returns-clause-fault : goal.returns-clause-fault
returns-clause-fault g c =
    IfErr-weaker c.wave.result _ _
    (λ fault h.
    subst (λ z. IsWaveFault c.args.store.now z c.wave.new.store fault) (c.as_slice.ensures.value ∙ c.in_ok-entries.ensures)
    (fault_of_all c.args.store.now c.wave.new.store c.in_ok-computed.computed c.as_slice.result.now fault h))
    c.wave.ensures.wave.fault

pub returns-clause-past : goal.returns-clause-past
returns-clause-past g c =
    let past : c.wave.result ≡ Err TooManyRequests → ArePast (g.G.Monitor.bound c.args.crew.now.monitor.now).requests c.args.store.now (conjunctions c.args.references.now c.args.given) = λ refused.
    subst (ArePast (g.G.Monitor.bound c.args.crew.now.monitor.now).requests c.args.store.now) (c.as_slice.ensures.value ∙ c.in_ok-entries.ensures)
    (past_all (g.G.Monitor.bound c.args.crew.now.monitor.now).requests c.args.store.now c.in_ok-computed.computed c.as_slice.result.now (c.wave.ensures.past refused)) in
    search (rules, past)

pub returns-clause-within_bound : goal.returns-clause-within_bound
returns-clause-within_bound g c =
    let within : most_of (g.G.Monitor.bound c.args.crew.now.monitor.now).requests < 2 ^ 64 - 1 → OnOk c.wave.result (AreAtMost (most_of (g.G.Monitor.bound c.args.crew.now.monitor.now).requests) c.args.store.now (conjunctions c.args.references.now c.args.given)) = λ bounded.
    on_ok_weaker c.wave.result
    (λ h.
    subst (AreAtMost (most_of (g.G.Monitor.bound c.args.crew.now.monitor.now).requests) c.args.store.now) (c.as_slice.ensures.value ∙ c.in_ok-entries.ensures)
    (at_most_all (most_of (g.G.Monitor.bound c.args.crew.now.monitor.now).requests) c.args.store.now c.in_ok-computed.computed c.as_slice.result.now (ap (λ (m : ComputedView). m.pairs) c.in_ok-computed.ensures.empty) h))
    (c.wave.ensures.within_bound bounded) in
    search (rules, within)
