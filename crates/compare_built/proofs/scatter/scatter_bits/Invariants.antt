use Rattle.std.proofs.Common.{◌≡◌, false, length, replicate, take}
use Rattle.std.specs.Prelude.{fold, zip}
use Rattle.compare_built.specs.Scatter.{with_bit}
use Rattle.compare_built.proofs.scatter.scatter_bits.Given as goal

-- the bits so far
abbrev pub invariant-loop-place : goal.invariant-loop-place
invariant-loop-place l = l.all_bits.items ≡ fold with_bit (replicate l.levels false) (take (length l.yielded) (zip l.places l.bits))
