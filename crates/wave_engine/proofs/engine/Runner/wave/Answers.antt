use Rattle.std.proofs.Common.{◌≡◌, ◌∙◌, ◌+◌, List, sym, subst}
use Rattle.std.proofs.lemmas.Result.{err_from_is_err_and}
use Rattle.req_table.specs.ComputedTables.{IsRight}
use Rattle.expand_work.specs.WaveParts.{HaveExpanded}
use Rattle.reduce_up.specs.Waves.{Entry, requests_of}
use Rattle.wave_engine.proofs.Probing.{probe_good, probe_long, probe_count, probe_right, found_each, waved, probe_refused, probe_done, probe_given_up}
use Rattle.wave_engine.specs.EngineView.{AreDivided}
use Rattle.wave_engine.proofs.engine.Runner.wave.Goals as goal

pub wave-requires-clause-operands : goal.wave-requires-clause-operands
wave-requires-clause-operands g c κs within =
    probe_good c.args.store.now c.levels.ensures.sound c.args.computed.now c.requires.right c.args.entries.now c.requires.operands c.probe.new.self c.in-Ok.ensures c.requests.result.now c.requests.ensures

pub returns-in_err-found-clause-right : goal.returns-in_err-found-clause-right
returns-in_err-found-clause-right g c =
    probe_right c.args.store.now c.levels.ensures.sound c.args.computed.now c.requires.right c.args.entries.now c.requires.operands c.probe.new.self c.in-Ok.ensures c.requests.result.now c.requests.ensures c.wave.new.store c.wave.ensures.wave.adds

pub complete_answers-requires-clause-requests : goal.complete_answers-requires-clause-requests
complete_answers-requires-clause-requests g c =
    probe_long c.args.store.now c.levels.ensures.sound c.args.computed.now c.requires.right c.args.entries.now c.requires.operands c.probe.new.self c.in-Ok.ensures c.requests.result.now c.requests.ensures

pub complete_answers-requires-clause-one_answer_per_request : goal.complete_answers-requires-clause-one_answer_per_request
complete_answers-requires-clause-one_answer_per_request g c =
    found_each c.args.store.now c.levels.ensures.sound c.args.computed.now c.requires.right c.args.entries.now c.requires.operands c.probe.new.self c.in-Ok.ensures c.requests.result.now c.requests.ensures c.wave.new.store c.in_ok-found.found.items c.as_slice.result.now c.as_slice.ensures.value c.in_ok-found.ensures.wave.answers

pub complete_answers-requires-clause-known : goal.complete_answers-requires-clause-known
complete_answers-requires-clause-known g c =
    probe_count c.args.store.now c.levels.ensures.sound c.args.computed.now c.requires.right c.args.entries.now c.requires.operands c.probe.new.self c.in-Ok.ensures c.requests.result.now c.requests.ensures

pub returns-in-Ok-complete_answers-clause-kept : goal.returns-in-Ok-complete_answers-clause-kept
returns-in-Ok-complete_answers-clause-kept g c =
    let done = waved c.args.store.now c.levels.ensures.sound c.args.computed.now c.requires.right c.args.entries.now c.requires.operands c.probe.new.self c.in-Ok.ensures c.requests.result.now c.requests.ensures c.wave.new.store c.in_ok-found.found.items c.as_slice.result.now c.as_slice.ensures.value c.in_ok-found.ensures.wave.answers
    c.in_ok-found.ensures.wave.sound c.in_ok-found.ensures.wave.adds c.in-Ok-complete_answers.answers.items c.in-Ok-complete_answers.ensures.answers c.complete_answers.new.computed c.in-Ok-complete_answers.ensures.kept in
    done.kept

pub returns-in-Ok-complete_answers-clause-right : goal.returns-in-Ok-complete_answers-clause-right
returns-in-Ok-complete_answers-clause-right g c =
    let done = waved c.args.store.now c.levels.ensures.sound c.args.computed.now c.requires.right c.args.entries.now c.requires.operands c.probe.new.self c.in-Ok.ensures c.requests.result.now c.requests.ensures c.wave.new.store c.in_ok-found.found.items c.as_slice.result.now c.as_slice.ensures.value c.in_ok-found.ensures.wave.answers
    c.in_ok-found.ensures.wave.sound c.in_ok-found.ensures.wave.adds c.in-Ok-complete_answers.answers.items c.in-Ok-complete_answers.ensures.answers c.complete_answers.new.computed c.in-Ok-complete_answers.ensures.kept in
    done.right

pub returns-clause-right : goal.returns-clause-right
returns-clause-right g c =
    let same : c.complete_answers.new.computed ≡ c.args.computed.now = c.in-Err.ensures.refused in
    subst (IsRight c.wave.new.store) (sym same)
    (probe_right c.args.store.now c.levels.ensures.sound c.args.computed.now c.requires.right c.args.entries.now c.requires.operands c.probe.new.self c.in-Ok.ensures c.requests.result.now c.requests.ensures c.wave.new.store c.wave.ensures.wave.adds)

pub returns-in_err-found-clause-wave : goal.returns-in_err-found-clause-wave
returns-in_err-found-clause-wave g c =
    let p = err_from_is_err_and c.from_residual.result c.from_residual.ensures.1 in
    let done = probe_refused c.args.store.now c.levels.ensures.sound c.args.computed.now c.requires.right c.args.entries.now c.requires.operands c.probe.new.self c.in-Ok.ensures c.requests.result.now c.requests.ensures c.wave.new.store _ c.in_err-found.ensures.wave in
    rw (p.1, p.2) done

pub returns-in-Ok-complete_answers-clause-wave : goal.returns-in-Ok-complete_answers-clause-wave
returns-in-Ok-complete_answers-clause-wave g c =
    let done = waved c.args.store.now c.levels.ensures.sound c.args.computed.now c.requires.right c.args.entries.now c.requires.operands c.probe.new.self c.in-Ok.ensures c.requests.result.now c.requests.ensures c.wave.new.store c.in_ok-found.found.items c.as_slice.result.now c.as_slice.ensures.value c.in_ok-found.ensures.wave.answers
    c.in_ok-found.ensures.wave.sound c.in_ok-found.ensures.wave.adds c.in-Ok-complete_answers.answers.items c.in-Ok-complete_answers.ensures.answers c.complete_answers.new.computed c.in-Ok-complete_answers.ensures.kept in
    probe_done c.args.store.now c.levels.ensures.sound c.args.computed.now c.requires.right c.args.entries.now c.requires.operands c.probe.new.self c.in-Ok.ensures c.requests.result.now c.requests.ensures c.wave.new.store c.in_ok-found.found c.in_ok-found.ensures.wave c.in-Ok-complete_answers.answers done.answered

pub returns-clause-wave : goal.returns-clause-wave
returns-clause-wave g c =
    probe_given_up c.args.store.now c.levels.ensures.sound c.args.computed.now c.requires.right c.args.entries.now c.requires.operands c.probe.new.self c.in-Ok.ensures c.requests.result.now c.requests.ensures c.wave.new.store c.in_ok-found.ensures.wave.sound c.in_ok-found.ensures.wave.adds _ tt

pub returns-in-Ok-complete_answers-clause-expanded : goal.returns-in-Ok-complete_answers-clause-expanded
returns-in-Ok-complete_answers-clause-expanded g c =
    subst (λ (es : List Entry). HaveExpanded c.args.store.now 1 (requests_of es) (c.args.self.now.workspace.down.splits + c.args.self.now.workspace.wave_memory) (c.wave.new.self.down.splits + c.wave.new.self.wave_memory))
    (c.requests.ensures ∙ c.in-Ok.ensures.requests) c.in_ok-found.ensures.expanded

pub returns-in-Ok-complete_answers-clause-divided : goal.returns-in-Ok-complete_answers-clause-divided
returns-in-Ok-complete_answers-clause-divided g c =
    subst (λ (es : List Entry). AreDivided c.args.store.now (requests_of es) c.args.self.now.workspace.up.reductions c.wave.new.self.up.reductions c.args.self.now.workspace.wave_memory c.wave.new.self.wave_memory)
    (c.requests.ensures ∙ c.in-Ok.ensures.requests) c.in_ok-found.ensures.divided
