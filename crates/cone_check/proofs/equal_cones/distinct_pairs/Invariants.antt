use Rattle.std.proofs.Common.{take}
use Rattle.cone_check.specs.EqualCones.{AreDistinct}
use Rattle.cone_check.proofs.equal_cones.distinct_pairs.Given as goal

abbrev pub invariant-loop-place : goal.invariant-loop-place
invariant-loop-place g l = AreDistinct l.context (take l.place l.subjects) l.known l.distinct
