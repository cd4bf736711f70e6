use Rattle.std.proofs.Common.{◌≡◌, drop}
use Rattle.net_order.specs.Order.{numbered}
use Rattle.net_order.specs.Tables.{with_names}
use Rattle.net_order.proofs.force.add_numbered.Given as goal

abbrev pub invariant-loop-number : goal.invariant-loop-number
invariant-loop-number l = with_names l.table (numbered l.names (drop l.number-index l.numbers)) ≡ with_names l.fn.table (numbered l.names l.numbers)
