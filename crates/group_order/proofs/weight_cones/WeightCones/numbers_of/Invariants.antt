use Rattle.std.proofs.Common.{◌≡◌, map, take}
use Rattle.std.specs.Prelude.{◌==◌, filter, slice_index}
use Rattle.group_order.proofs.weight_cones.WeightCones.numbers_of.Given as goal

abbrev pub invariant-loop-operand : goal.invariant-loop-operand
invariant-loop-operand l = l.numbers.items ≡ map (slice_index l.self.numbers) (filter (λ s. slice_index l.self.roots s == l.root) (take l.operand-index l.operands))
