use Rattle.std.proofs.Common.{◌≡◌, ◌++◌, map, take}
use Rattle.group_order.specs.FreeForce.{free_edge}
use Rattle.group_order.proofs.free_force.add_edges.Given as goal

abbrev pub invariant-loop-gate : goal.invariant-loop-gate
invariant-loop-gate l = l.edges.items ≡ l.initial.edges.items ++ map (free_edge l.chosen l.vertices) (take l.gate-index l.gates)
