use Rattle.std.proofs.Common.{◌≡◌, ◌+◌, IfOk, MatchBool, refl, sym, subst, arith}
use Rattle.wave_core.specs.declared.Event.{Event}
use Rattle.wave_core.specs.declared.Event.TheVariants.{Send, End, Take, Expand, Advance, Keep}
use Rattle.wave_core.specs.Step.{IsStep, IsAllowed}
use Rattle.wave_core.specs.MachineView.{state_of, done_of}
use Rattle.wave_core.specs.Cores.{CoreView, core_wave, core_state}
use Rattle.wave_core.proofs.Cores.{core_at, event_keeps, does_keeps, lifts, lifts_does, taken_fair, taken_held, own_in_order, own_below, counts_does, counts_same, counts_event, same_after}
use Rattle.wave_core.proofs.waves.Core.try_event.Goals as goal

pub invariant_of-self : goal.invariant_of-self
invariant_of-self c = event_keeps c.self.inside.store.now c.self.inside.machine c.send.new.self c.self.inside.roots.now (Send c.in-Send.by c.in-Send.to) c.send.result c.send.ensures.same c.send.ensures.ok c.send.ensures.err c.self.invariant

pub returns-in-Send-clause-ok : goal.returns-in-Send-clause-ok
returns-in-Send-clause-ok c =
    subst (λ (e : Event). IfOk c.send.result (λ b. MatchBool b (IsStep (core_wave c.args.self.now) (core_state c.args.self.now) e (state_of c.send.new.self)) ((core_at c.self.inside.store.now c.send.new.self c.self.inside.roots.now ≡ c.args.self.now) × ¬ IsAllowed (core_wave c.args.self.now) (core_state c.args.self.now) e))) (sym c.in-Send.is)
    (subst (λ (y : CoreView). IfOk c.send.result (λ b. MatchBool b (IsStep (core_wave y) (core_state y) (Send c.in-Send.by c.in-Send.to) (state_of c.send.new.self)) ((core_at c.self.inside.store.now c.send.new.self c.self.inside.roots.now ≡ y) × ¬ IsAllowed (core_wave y) (core_state y) (Send c.in-Send.by c.in-Send.to)))) c.self.view_is
    (lifts c.self.inside.store.now c.self.inside.machine c.send.new.self c.self.inside.roots.now (Send c.in-Send.by c.in-Send.to) c.send.result c.self.invariant.levels c.send.ensures.ok))

pub returns-in-Send-clause-same : goal.returns-in-Send-clause-same
returns-in-Send-clause-same c = same_after (core_at c.self.inside.store.now c.self.inside.machine c.self.inside.roots.now) c.args.self.now c.send.new.self c.self.view_is c.send.ensures.same.0

pub invariant_of-self-in-End : goal.invariant_of-self-in-End
invariant_of-self-in-End c = event_keeps c.self.inside.store.now c.self.inside.machine c.end.new.self c.self.inside.roots.now (End c.in-End.by c.in-End.to) c.end.result c.end.ensures.same c.end.ensures.ok c.end.ensures.err c.self.invariant

pub returns-in-End-clause-ok : goal.returns-in-End-clause-ok
returns-in-End-clause-ok c =
    subst (λ (e : Event). IfOk c.end.result (λ b. MatchBool b (IsStep (core_wave c.args.self.now) (core_state c.args.self.now) e (state_of c.end.new.self)) ((core_at c.self.inside.store.now c.end.new.self c.self.inside.roots.now ≡ c.args.self.now) × ¬ IsAllowed (core_wave c.args.self.now) (core_state c.args.self.now) e))) (sym c.in-End.is)
    (subst (λ (y : CoreView). IfOk c.end.result (λ b. MatchBool b (IsStep (core_wave y) (core_state y) (End c.in-End.by c.in-End.to) (state_of c.end.new.self)) ((core_at c.self.inside.store.now c.end.new.self c.self.inside.roots.now ≡ y) × ¬ IsAllowed (core_wave y) (core_state y) (End c.in-End.by c.in-End.to)))) c.self.view_is
    (lifts c.self.inside.store.now c.self.inside.machine c.end.new.self c.self.inside.roots.now (End c.in-End.by c.in-End.to) c.end.result c.self.invariant.levels c.end.ensures.ok))

pub returns-in-End-clause-same : goal.returns-in-End-clause-same
returns-in-End-clause-same c = same_after (core_at c.self.inside.store.now c.self.inside.machine c.self.inside.roots.now) c.args.self.now c.end.new.self c.self.view_is c.end.ensures.same.0

pub invariant_of-self-in-Take : goal.invariant_of-self-in-Take
invariant_of-self-in-Take c = event_keeps c.self.inside.store.now c.self.inside.machine c.take.new.self c.self.inside.roots.now (Take c.in-Take.by) c.take.result c.take.ensures.same c.take.ensures.ok c.take.ensures.err c.self.invariant

pub returns-in-Take-clause-ok : goal.returns-in-Take-clause-ok
returns-in-Take-clause-ok c =
    subst (λ (e : Event). IfOk c.take.result (λ b. MatchBool b (IsStep (core_wave c.args.self.now) (core_state c.args.self.now) e (state_of c.take.new.self)) ((core_at c.self.inside.store.now c.take.new.self c.self.inside.roots.now ≡ c.args.self.now) × ¬ IsAllowed (core_wave c.args.self.now) (core_state c.args.self.now) e))) (sym c.in-Take.is)
    (subst (λ (y : CoreView). IfOk c.take.result (λ b. MatchBool b (IsStep (core_wave y) (core_state y) (Take c.in-Take.by) (state_of c.take.new.self)) ((core_at c.self.inside.store.now c.take.new.self c.self.inside.roots.now ≡ y) × ¬ IsAllowed (core_wave y) (core_state y) (Take c.in-Take.by)))) c.self.view_is
    (lifts c.self.inside.store.now c.self.inside.machine c.take.new.self c.self.inside.roots.now (Take c.in-Take.by) c.take.result c.self.invariant.levels c.take.ensures.ok))

pub returns-in-Take-clause-same : goal.returns-in-Take-clause-same
returns-in-Take-clause-same c = same_after (core_at c.self.inside.store.now c.self.inside.machine c.self.inside.roots.now) c.args.self.now c.take.new.self c.self.view_is c.take.ensures.same.0

pub invariant_of-self-in-Expand : goal.invariant_of-self-in-Expand
invariant_of-self-in-Expand c = event_keeps c.self.inside.store.now c.self.inside.machine c.expand.new.self c.self.inside.roots.now (Expand c.in-Expand.by) c.expand.result c.expand.ensures.same c.expand.ensures.ok c.expand.ensures.err c.self.invariant

pub returns-in-Expand-clause-ok : goal.returns-in-Expand-clause-ok
returns-in-Expand-clause-ok c =
    subst (λ (e : Event). IfOk c.expand.result (λ b. MatchBool b (IsStep (core_wave c.args.self.now) (core_state c.args.self.now) e (state_of c.expand.new.self)) ((core_at c.self.inside.store.now c.expand.new.self c.self.inside.roots.now ≡ c.args.self.now) × ¬ IsAllowed (core_wave c.args.self.now) (core_state c.args.self.now) e))) (sym c.in-Expand.is)
    (subst (λ (y : CoreView). IfOk c.expand.result (λ b. MatchBool b (IsStep (core_wave y) (core_state y) (Expand c.in-Expand.by) (state_of c.expand.new.self)) ((core_at c.self.inside.store.now c.expand.new.self c.self.inside.roots.now ≡ y) × ¬ IsAllowed (core_wave y) (core_state y) (Expand c.in-Expand.by)))) c.self.view_is
    (lifts c.self.inside.store.now c.self.inside.machine c.expand.new.self c.self.inside.roots.now (Expand c.in-Expand.by) c.expand.result c.self.invariant.levels c.expand.ensures.ok))

pub returns-in-Expand-clause-same : goal.returns-in-Expand-clause-same
returns-in-Expand-clause-same c = same_after (core_at c.self.inside.store.now c.self.inside.machine c.self.inside.roots.now) c.args.self.now c.expand.new.self c.self.view_is c.expand.ensures.same.0

pub expand-requires-clause-fair : goal.expand-requires-clause-fair
expand-requires-clause-fair c = taken_fair c.self.inside.store.now c.self.inside.machine c.self.inside.roots.now c.in-Expand.by c.self.invariant

pub expand-requires-clause-held : goal.expand-requires-clause-held
expand-requires-clause-held c = taken_held c.self.inside.store.now c.self.inside.machine c.self.inside.roots.now c.in-Expand.by c.self.invariant

pub advance-requires : goal.advance-requires
advance-requires c = record { fair = taken_fair c.self.inside.store.now c.self.inside.machine c.self.inside.roots.now c.in-Advance.by c.self.invariant }

pub invariant_of-self-in-Advance : goal.invariant_of-self-in-Advance
invariant_of-self-in-Advance c = does_keeps c.self.inside.store.now c.self.inside.machine c.advance.new.self c.self.inside.roots.now (Advance c.in-Advance.by) c.advance.result c.advance.ensures.same c.advance.ensures.done c.self.invariant

pub returns-in-Advance-clause-ok : goal.returns-in-Advance-clause-ok
returns-in-Advance-clause-ok c =
    subst (λ (e : Event). MatchBool c.advance.result (IsStep (core_wave c.args.self.now) (core_state c.args.self.now) e (state_of c.advance.new.self)) ((core_at c.self.inside.store.now c.advance.new.self c.self.inside.roots.now ≡ c.args.self.now) × ¬ IsAllowed (core_wave c.args.self.now) (core_state c.args.self.now) e)) (sym c.in-Advance.is)
    (subst (λ (y : CoreView). MatchBool c.advance.result (IsStep (core_wave y) (core_state y) (Advance c.in-Advance.by) (state_of c.advance.new.self)) ((core_at c.self.inside.store.now c.advance.new.self c.self.inside.roots.now ≡ y) × ¬ IsAllowed (core_wave y) (core_state y) (Advance c.in-Advance.by))) c.self.view_is
    (lifts_does c.self.inside.store.now c.self.inside.machine c.advance.new.self c.self.inside.roots.now (Advance c.in-Advance.by) c.advance.result c.self.invariant.levels c.advance.ensures.done))

pub returns-in-Advance-clause-same : goal.returns-in-Advance-clause-same
returns-in-Advance-clause-same c = same_after (core_at c.self.inside.store.now c.self.inside.machine c.self.inside.roots.now) c.args.self.now c.advance.new.self c.self.view_is c.advance.ensures.same.0

pub invariant_of-self-in-Keep : goal.invariant_of-self-in-Keep
invariant_of-self-in-Keep c = event_keeps c.self.inside.store.now c.self.inside.machine c.keep.new.self c.self.inside.roots.now (Keep c.in-Keep.by) c.keep.result c.keep.ensures.same c.keep.ensures.ok c.keep.ensures.err c.self.invariant

pub returns-in-Keep-clause-ok : goal.returns-in-Keep-clause-ok
returns-in-Keep-clause-ok c =
    subst (λ (e : Event). IfOk c.keep.result (λ b. MatchBool b (IsStep (core_wave c.args.self.now) (core_state c.args.self.now) e (state_of c.keep.new.self)) ((core_at c.self.inside.store.now c.keep.new.self c.self.inside.roots.now ≡ c.args.self.now) × ¬ IsAllowed (core_wave c.args.self.now) (core_state c.args.self.now) e))) (sym c.in-Keep.is)
    (subst (λ (y : CoreView). IfOk c.keep.result (λ b. MatchBool b (IsStep (core_wave y) (core_state y) (Keep c.in-Keep.by) (state_of c.keep.new.self)) ((core_at c.self.inside.store.now c.keep.new.self c.self.inside.roots.now ≡ y) × ¬ IsAllowed (core_wave y) (core_state y) (Keep c.in-Keep.by)))) c.self.view_is
    (lifts c.self.inside.store.now c.self.inside.machine c.keep.new.self c.self.inside.roots.now (Keep c.in-Keep.by) c.keep.result c.self.invariant.levels c.keep.ensures.ok))

pub returns-in-Keep-clause-same : goal.returns-in-Keep-clause-same
returns-in-Keep-clause-same c = same_after (core_at c.self.inside.store.now c.self.inside.machine c.self.inside.roots.now) c.args.self.now c.keep.new.self c.self.view_is c.keep.ensures.same.0

pub keep-requires-clause-own : goal.keep-requires-clause-own
keep-requires-clause-own c = own_in_order c.self.inside.store.now c.self.inside.machine c.self.inside.roots.now c.in-Keep.by c.self.invariant

pub keep-requires-clause-below : goal.keep-requires-clause-below
keep-requires-clause-below c = own_below c.self.inside.store.now c.self.inside.machine c.self.inside.roots.now c.in-Keep.by c.self.invariant

pub returns-in-Send-clause-counts : goal.returns-in-Send-clause-counts
returns-in-Send-clause-counts c =
    subst (λ (y : CoreView). IfOk c.send.result (λ b. MatchBool b (done_of c.send.new.self ≡ done_of y.machine + 1) (done_of c.send.new.self ≡ done_of y.machine))) c.self.view_is
    (counts_same c.self.inside.store.now c.self.inside.machine c.send.new.self (Send c.in-Send.by c.in-Send.to) c.send.result c.workers.ensures.kept c.send.ensures.same c.send.ensures.ok c.send.ensures.kept refl)

pub returns-in-End-clause-counts : goal.returns-in-End-clause-counts
returns-in-End-clause-counts c =
    subst (λ (y : CoreView). IfOk c.end.result (λ b. MatchBool b (done_of c.end.new.self ≡ done_of y.machine + 1) (done_of c.end.new.self ≡ done_of y.machine))) c.self.view_is
    (counts_same c.self.inside.store.now c.self.inside.machine c.end.new.self (End c.in-End.by c.in-End.to) c.end.result c.workers.ensures.kept c.end.ensures.same c.end.ensures.ok c.end.ensures.kept refl)

pub returns-in-Take-clause-counts : goal.returns-in-Take-clause-counts
returns-in-Take-clause-counts c =
    subst (λ (y : CoreView). IfOk c.take.result (λ b. MatchBool b (done_of c.take.new.self ≡ done_of y.machine + 1) (done_of c.take.new.self ≡ done_of y.machine))) c.self.view_is
    (counts_same c.self.inside.store.now c.self.inside.machine c.take.new.self (Take c.in-Take.by) c.take.result c.workers.ensures.kept c.take.ensures.same c.take.ensures.ok c.take.ensures.kept refl)

pub returns-in-Expand-clause-counts : goal.returns-in-Expand-clause-counts
returns-in-Expand-clause-counts c =
    subst (λ (y : CoreView). IfOk c.expand.result (λ b. MatchBool b (done_of c.expand.new.self ≡ done_of y.machine + 1) (done_of c.expand.new.self ≡ done_of y.machine))) c.self.view_is
    (counts_same c.self.inside.store.now c.self.inside.machine c.expand.new.self (Expand c.in-Expand.by) c.expand.result c.workers.ensures.kept c.expand.ensures.same c.expand.ensures.ok c.expand.ensures.kept refl)

pub returns-in-Advance-clause-counts : goal.returns-in-Advance-clause-counts
returns-in-Advance-clause-counts c =
    subst (λ (y : CoreView). MatchBool c.advance.result (done_of c.advance.new.self ≡ done_of y.machine + 1) (done_of c.advance.new.self ≡ done_of y.machine)) c.self.view_is
    (counts_event c.self.inside.store.now c.self.inside.machine c.advance.new.self (Advance c.in-Advance.by) c.advance.result c.workers.ensures.kept c.advance.ensures.same c.advance.ensures.done (λ t. (let k = c.advance.ensures.kept in omega (arith, k))))

pub returns-in-Keep-clause-counts : goal.returns-in-Keep-clause-counts
returns-in-Keep-clause-counts c =
    subst (λ (y : CoreView). IfOk c.keep.result (λ b. MatchBool b (done_of c.keep.new.self ≡ done_of y.machine + 1) (done_of c.keep.new.self ≡ done_of y.machine))) c.self.view_is
    (counts_does c.self.inside.store.now c.self.inside.machine c.keep.new.self (Keep c.in-Keep.by) c.keep.result c.workers.ensures.kept c.keep.ensures.same c.keep.ensures.ok c.keep.ensures.kept)
