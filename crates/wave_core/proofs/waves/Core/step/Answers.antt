use Rattle.std.proofs.Common.{◌≡◌, ◌+◌, subst}
use Rattle.wave_core.specs.Step.{IsStep, IsAllowed}
use Rattle.wave_core.specs.Cores.{CoreView, core_wave, core_state, events_done, IsSoundCore}
use Rattle.wave_core.proofs.Drives.{of_true}
use Rattle.wave_core.proofs.Stepped.{none_follows, one_follows, takes_open}
use Rattle.wave_core.proofs.waves.Core.step.Goals as goal

pub returns-then-not-allows-clause-refused : goal.returns-then-not-allows-clause-refused
returns-then-not-allows-clause-refused c = (c.events_done-place.ensures, none_follows c.args.self.now c.args.event c.if-not-allows.ensures)

pub returns-in-Ok-true-clause-open : goal.returns-in-Ok-true-clause-open
returns-in-Ok-true-clause-open c =
    let v = c.args.self.now in
    let sound = subst (λ (y : CoreView). IsSoundCore y) c.self.view_is c.self.invariant in
    let step = of_true c.in-Ok-true.field-0 (IsStep (core_wave v) (core_state v) c.args.event (core_state c.try_event.new.self)) ((c.try_event.new.self ≡ v) × ¬ IsAllowed (core_wave v) (core_state v) c.args.event) c.in-Ok-true.field-0-test c.in-Ok-true.ensures.ok in
    takes_open v (core_state c.try_event.new.self) c.args.event sound step

pub returns-in-Err-clause-refused : goal.returns-in-Err-clause-refused
returns-in-Err-clause-refused c = one_follows c.args.self.now c.args.event c.if-not-allows.ensures

pub returns-in-Ok-true-clause-counts : goal.returns-in-Ok-true-clause-counts
returns-in-Ok-true-clause-counts c =
    let v = c.args.self.now in
    of_true c.in-Ok-true.field-0 (events_done c.try_event.new.self ≡ events_done v + 1) (events_done c.try_event.new.self ≡ events_done v) c.in-Ok-true.field-0-test c.in-Ok-true.ensures.counts
