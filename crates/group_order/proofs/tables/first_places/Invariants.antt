use Rattle.std.proofs.Common.{◌≡◌, ◌≤◌, length, drop}
use Rattle.std.specs.Prelude.{replicate}
use Rattle.group_order.specs.Sides.{first_places}
use Rattle.group_order.proofs.tables.first_places.Given as goal

abbrev pub invariant-loop-place : goal.invariant-loop-place
invariant-loop-place l = record {
  within : l.place ≤ length l.order;
  rest : l.table.items ≡ first_places l.labels (replicate (length l.labels) (length l.order)) l.place (drop l.place l.order);
}

abbrev pub decreases-loop-place : goal.decreases-loop-place
decreases-loop-place l = l.place
