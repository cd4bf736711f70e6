use Rattle.std.proofs.Common.{◌≡◌, map, take}
use Rattle.std.specs.Prelude.{fold}
use Rattle.net_bench.specs.Circuit.{with_name}
use Rattle.net_cone.specs.Cones.{variable_name}
use Rattle.net_cone.proofs.naming.intern_variables.Given as goal

abbrev pub invariant-loop-place : goal.invariant-loop-place
invariant-loop-place l = l.names ≡ fold with_name l.initial.names (map (variable_name (map (λ w. w.items) l.given)) (take l.place l.variables))
