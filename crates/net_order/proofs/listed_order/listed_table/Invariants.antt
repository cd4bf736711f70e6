use Rattle.std.proofs.Common.{◌≡◌, ◌+◌, [], take, drop}
use Rattle.net_order.specs.Order.{bad_place}
use Rattle.net_order.proofs.listed_order.listed_table.Given as goal

abbrev pub invariant-loop-i : goal.invariant-loop-i
invariant-loop-i l = record {
  names : l.table ≡ take l.i l.list;
  rest : bad_place l.variables l.table (drop l.i l.list) (l.i + 1) ≡ bad_place l.variables [] l.list 1;
}
