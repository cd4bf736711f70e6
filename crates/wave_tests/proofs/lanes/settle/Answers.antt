use Rattle.std.proofs.Common.{arith}
use Rattle.wave_tests.proofs.lanes.settle.Goals as goal

-- every port was checked, and has the number of its place
pub settle-requires : goal.settle-requires
settle-requires g c = (omega arith, λ i d lt. let p = c.requires i d (omega arith) in (p.0, p.1, c.loop-place.invariant i d (omega arith)))
