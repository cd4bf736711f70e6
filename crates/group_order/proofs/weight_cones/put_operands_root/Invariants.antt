use Rattle.std.proofs.Common.{◌≡◌, drop}
use Rattle.std.specs.Prelude.{fold}
use Rattle.group_order.specs.WeightCones.{with_root}
use Rattle.group_order.proofs.weight_cones.put_operands_root.Given as goal

abbrev pub invariant-loop-operand : goal.invariant-loop-operand
invariant-loop-operand l = fold (with_root l.root) l.table.items (drop l.operand-index l.operands) ≡ fold (with_root l.root) l.initial.table.items l.operands
