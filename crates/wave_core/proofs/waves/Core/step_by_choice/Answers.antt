use Rattle.std.proofs.Common.{◌≡◌, ◌%◌, mod-lt, subst}
use Rattle.wave_core.specs.Step.{IsStep, IsAllowed}
use Rattle.wave_core.specs.Drive.{CountsAllowed, IsNthAllowed}
use Rattle.wave_core.specs.Cores.{CoreView, core_wave, core_state, IsSoundCore}
use Rattle.wave_core.proofs.Drives.{some_allowed, chosen_step_made, step_measure, is_allowed, of_true, of_false}
use Rattle.wave_core.proofs.waves.Core.step_by_choice.Goals as goal

pub nonzero_rem-choice : goal.nonzero_rem-choice
nonzero_rem-choice c =
    let v = c.args.self.now in
    let sound = subst (λ (y : CoreView). IsSoundCore y) c.self.view_is c.self.invariant in
    let n = c.count_allowed-count.result in
    some_allowed v n sound c.requires.more (subst (λ xs. CountsAllowed (core_wave v) (core_state v) xs n) c.requires.events c.count_allowed-count.ensures)

pub nth_allowed-event-requires : goal.nth_allowed-event-requires
nth_allowed-event-requires c =
    let v = c.args.self.now in
    let sound = subst (λ (y : CoreView). IsSoundCore y) c.self.view_is c.self.invariant in
    let n = c.count_allowed-count.result in
    let some = some_allowed v n sound c.requires.more (subst (λ xs. CountsAllowed (core_wave v) (core_state v) xs n) c.requires.events c.count_allowed-count.ensures) in
    (n, mod-lt c.args.choice some, c.count_allowed-count.ensures)

pub unreachable-requires : goal.unreachable-requires
unreachable-requires c =
    let v = c.args.self.now in
    let e = c.nth_allowed-event.result in
    let turned = of_false c.in-Ok-false.field-0 (IsStep (core_wave v) (core_state v) e (core_state c.try_event.new.self)) ((c.try_event.new.self ≡ v) × ¬ IsAllowed (core_wave v) (core_state v) e) c.in-Ok-false.field-0-test c.in-Ok-false.ensures.ok in
    is_allowed (core_wave v) (core_state v) c.args.events.now (c.args.choice % c.count_allowed-count.result) e c.nth_allowed-event.ensures turned.1

pub returns-in-Ok-true-clause-ok : goal.returns-in-Ok-true-clause-ok
returns-in-Ok-true-clause-ok c =
    let v = c.args.self.now in
    let w = core_wave v in
    let s = core_state v in
    let e = c.nth_allowed-event.result in
    let sound = subst (λ (y : CoreView). IsSoundCore y) c.self.view_is c.self.invariant in
    let n = c.count_allowed-count.result in
    let count = subst (λ xs. CountsAllowed w s xs n) c.requires.events c.count_allowed-count.ensures in
    let step = of_true c.in-Ok-true.field-0 (IsStep w s e (core_state c.try_event.new.self)) ((c.try_event.new.self ≡ v) × ¬ IsAllowed w s e) c.in-Ok-true.field-0-test c.in-Ok-true.ensures.ok in
    chosen_step_made w s (core_state c.try_event.new.self) c.args.choice n e (some_allowed v n sound c.requires.more count) count (subst (λ xs. IsNthAllowed w s xs (c.args.choice % n) e) c.requires.events c.nth_allowed-event.ensures) step

pub returns-in-Ok-true-clause-measure_decreases : goal.returns-in-Ok-true-clause-measure_decreases
returns-in-Ok-true-clause-measure_decreases c =
    let v = c.args.self.now in
    let w = core_wave v in
    let s = core_state v in
    let e = c.nth_allowed-event.result in
    let sound = subst (λ (y : CoreView). IsSoundCore y) c.self.view_is c.self.invariant in
    let step = of_true c.in-Ok-true.field-0 (IsStep w s e (core_state c.try_event.new.self)) ((c.try_event.new.self ≡ v) × ¬ IsAllowed w s e) c.in-Ok-true.field-0-test c.in-Ok-true.ensures.ok in
    step_measure v c.try_event.new.self e sound c.try_event.ensures.same step
