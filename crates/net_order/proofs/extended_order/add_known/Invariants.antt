use Rattle.std.proofs.Common.{◌≡◌, drop, filter}
use Rattle.net_bench.specs.Circuit.{is_name_in}
use Rattle.net_order.specs.Tables.{with_names}
use Rattle.net_order.proofs.extended_order.add_known.Given as goal

abbrev pub invariant-loop-i : goal.invariant-loop-i
invariant-loop-i l = with_names l.table (filter (is_name_in l.variables) (drop l.i l.list)) ≡ with_names l.fn.table (filter (is_name_in l.variables) l.list)
