use Rattle.std.proofs.Common.{◌≡◌, map, take}
use Rattle.net_cone.specs.Walk.{gates_of, renumbered}
use Rattle.net_cone.proofs.numbering.renumbered_gates.Given as goal

abbrev pub invariant-loop-place : goal.invariant-loop-place
invariant-loop-place l = l.copies.items ≡ map (renumbered l.to) (gates_of l.net.gates (take l.place l.signals))
