use Rattle.std.proofs.Common.{ℕ, ◌<◌}
use Rattle.check_tool.specs.Splitting.{DividesAt}
use Rattle.check_tool.proofs.split.split_input.Given as goal

abbrev pub invariant-loop-at : goal.invariant-loop-at
invariant-loop-at l = (k m : ℕ) → k < l.at → DividesAt l.text k m → ⊥
