use Rattle.std.proofs.Common.{◌≡◌}
use Rattle.wave_tests.proofs.cores.core_refusals.Given as goal

abbrev pub invariant-loop-event : goal.invariant-loop-event
invariant-loop-event g l = l.core.machine.workers ≡ 2
