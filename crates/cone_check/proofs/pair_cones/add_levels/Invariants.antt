use Rattle.std.proofs.Common.{map, take}
use Rattle.std.specs.Prelude.{slice_index}
use Rattle.cone_check.specs.ConeLevels.{AreSetAt}
use Rattle.cone_check.specs.ConeRounds.{levels_in}
use Rattle.cone_check.proofs.pair_cones.add_levels.Given as goal

abbrev pub invariant-loop-place : goal.invariant-loop-place
invariant-loop-place l = AreSetAt (map (slice_index (levels_in l.part l.naming)) (take l.place l.cone.from.items)) l.fn.has_level.items l.has_level.items
