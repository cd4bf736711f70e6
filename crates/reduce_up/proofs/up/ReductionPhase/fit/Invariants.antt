use Rattle.std.proofs.Common.{◌≡◌, length}
use Rattle.reduce_up.proofs.up.ReductionPhase.fit.Given as goal

abbrev pub invariant-loop-made : goal.invariant-loop-made
invariant-loop-made l = length l.fresh.items ≡ l.made
