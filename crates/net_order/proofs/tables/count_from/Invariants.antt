use Rattle.std.proofs.Common.{◌≡◌, ◌+◌, drop}
use Rattle.net_order.specs.Force.{counted_from}
use Rattle.net_order.proofs.tables.count_from.Given as goal

abbrev pub invariant-loop-place : goal.invariant-loop-place
invariant-loop-place l = record {
  number : l.number ≡ l.fn.first + l.place-index;
  rest : counted_from l.number l.table.items (drop l.place-index l.places) ≡ counted_from l.fn.first l.initial.table.items l.places;
}
