use Rattle.std.proofs.Common.{◌≡◌, map, take}
use Rattle.net_cone.specs.Cones.{variable_name}
use Rattle.cone_check.specs.ConeRounds.{texts}
use Rattle.cone_check.proofs.pair_cones.names_at.Given as goal

abbrev pub invariant-loop-place : goal.invariant-loop-place
invariant-loop-place l = texts l.list.items ≡ map (variable_name l.names) (take l.place l.places)
