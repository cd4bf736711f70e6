use Rattle.std.proofs.Common.{◌≡◌}
use Rattle.wave_tests.proofs.requests.store_of.Given as goal

abbrev pub invariant-loop-level : goal.invariant-loop-level
invariant-loop-level g l = l.store.levels ≡ l.levels
