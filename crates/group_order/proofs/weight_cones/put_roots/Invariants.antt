use Rattle.std.proofs.Common.{◌≡◌, drop}
use Rattle.group_order.specs.WeightCones.{with_roots}
use Rattle.group_order.proofs.weight_cones.put_roots.Given as goal

abbrev pub invariant-loop-place : goal.invariant-loop-place
invariant-loop-place l = with_roots l.place l.table.items (drop l.place l.roots) ≡ with_roots 0 l.fn.table.items l.roots
