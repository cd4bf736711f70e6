use Rattle.std.proofs.Common.{◌≡◌, map, take}
use Rattle.std.specs.Prelude.{slice_index}
use Rattle.net_order.proofs.hypergraph.edge_of.Given as goal

abbrev pub invariant-loop-operand : goal.invariant-loop-operand
invariant-loop-operand l = l.edge.items ≡ map (slice_index l.vertices) (take l.operand-index l.operand-items)
