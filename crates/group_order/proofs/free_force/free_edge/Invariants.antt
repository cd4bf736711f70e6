use Rattle.std.proofs.Common.{◌≡◌, map, take}
use Rattle.std.specs.Prelude.{filter, slice_index}
use Rattle.group_order.specs.FreeForce.{is_free}
use Rattle.group_order.proofs.free_force.free_edge.Given as goal

abbrev pub invariant-loop-operand : goal.invariant-loop-operand
invariant-loop-operand l = l.edge.items ≡ filter (is_free l.chosen) (map (slice_index l.vertices) (take l.operand-index l.operands))
