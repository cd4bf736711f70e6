use Rattle.std.proofs.Common.{◌≡◌, drop}
use Rattle.net_order.specs.Order.{names_on}
use Rattle.net_order.specs.Tables.{with_names}
use Rattle.net_order.proofs.variables.add_names.Given as goal

abbrev pub invariant-loop-variable : goal.invariant-loop-variable
invariant-loop-variable l = with_names l.table (names_on l.side (drop l.variable-index l.variables)) ≡ with_names l.initial.table (names_on l.side l.variables)
