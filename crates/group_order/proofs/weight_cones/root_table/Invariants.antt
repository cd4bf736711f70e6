use Rattle.std.proofs.Common.{◌≡◌, drop}
use Rattle.std.specs.Prelude.{fold, slice_get}
use Rattle.group_order.specs.WeightCones.{with_operands_root}
use Rattle.group_order.proofs.weight_cones.root_table.Given as goal

abbrev pub invariant-loop-place : goal.invariant-loop-place
invariant-loop-place l =
    fold (λ t p. with_operands_root t (slice_get l.side.net.gates p)) l.table.items (drop l.place-index l.falling) ≡
    fold (λ t p. with_operands_root t (slice_get l.side.net.gates p)) l.initial.table.items l.falling
