use Rattle.std.proofs.Common.{◌≡◌, map, take}
use Rattle.std.specs.Prelude.{fold}
use Rattle.net_bench.specs.Circuit.{with_name}
use Rattle.net_cone.specs.Walk.{numbered_name}
use Rattle.net_cone.proofs.naming.intern_gates.Given as goal

abbrev pub invariant-loop-place : goal.invariant-loop-place
invariant-loop-place l = l.names ≡ fold with_name l.initial.names (map (numbered_name l.to) (take l.place l.signals))
