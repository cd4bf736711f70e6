use Rattle.std.proofs.Common.{◌≡◌, ◌++◌, map, take}
use Rattle.net_order.specs.Force.{edge_of}
use Rattle.net_order.proofs.hypergraph.add_edges.Given as goal

abbrev pub invariant-loop-gate : goal.invariant-loop-gate
invariant-loop-gate l = l.edges.items ≡ l.initial.edges.items ++ map (edge_of l.vertices) (take l.gate-index l.gates)
