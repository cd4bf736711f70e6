use Rattle.std.proofs.Common.{◌+◌, get_or, drop, sym, subst, arith}
use Rattle.wave_core.specs.declared.Event.TheVariants.{Send}
use Rattle.wave_core.specs.Step.{IsAllowed}
use Rattle.wave_core.specs.Cores.{core_wave, core_state}
use Rattle.wave_core.proofs.Drives.{CountsOn, counts_next, counts_past, counts_all, of_true, of_false}
use Rattle.wave_core.proofs.waves.Core.count_allowed.Goals as goal
use Rattle.wave_core.proofs.waves.Core.count_allowed.Goals.{then-allows, else-allows}

pub loop-event-preserved : goal.loop-event-preserved
loop-event-preserved c =
    let w = core_wave c.args.self.now in
    let s = core_state c.args.self.now in
    let i = c.loop-event.event-index in
    let xs = c.args.events.now in
    let h = c.loop-event.invariant in
    elim c.if-allows.branch [
      | then-allows u ↦ record { few = omega (arith, u.count-is, h.few); counts = subst (λ n. CountsOn w s xs (drop (i + 1) xs) n) (sym u.count-is) (counts_next w s xs i c.loop-event.count c.loop-event-test.true (of_true c.allows.result (IsAllowed w s (get_or xs i (Send 0 0))) (¬ IsAllowed w s (get_or xs i (Send 0 0))) u.if-allows.true c.allows.ensures) h.counts) }
      | else-allows u ↦ record { few = omega (arith, u.count-is, h.few); counts = subst (λ n. CountsOn w s xs (drop (i + 1) xs) n) (sym u.count-is) (counts_past w s xs i c.loop-event.count c.loop-event-test.true (of_false c.allows.result (IsAllowed w s (get_or xs i (Send 0 0))) (¬ IsAllowed w s (get_or xs i (Send 0 0))) u.if-allows.false c.allows.ensures) h.counts) }
    ]

pub returns : goal.returns
returns c = counts_all (core_wave c.args.self.now) (core_state c.args.self.now) c.args.events.now c.loop-event.event-index c.loop-event.count c.loop-event-test.false c.loop-event.invariant.counts
