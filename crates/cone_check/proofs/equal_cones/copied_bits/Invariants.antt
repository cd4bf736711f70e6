use Rattle.std.proofs.Common.{◌≡◌, take}
use Rattle.cone_check.proofs.equal_cones.copied_bits.Given as goal

abbrev pub invariant-loop-place : goal.invariant-loop-place
invariant-loop-place l = l.list.items ≡ take l.place l.bits
