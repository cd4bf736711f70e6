use Rattle.std.proofs.Common.{◌≡◌, drop}
use Rattle.net_order.specs.Order.{names_of_sides}
use Rattle.net_order.specs.Tables.{group_variables, with_names}
use Rattle.net_order.proofs.variables.add_sides.Given as goal

abbrev pub invariant-loop-i : goal.invariant-loop-i
invariant-loop-i l = with_names l.table (names_of_sides (group_variables l.listing) (drop l.i l.sides)) ≡ with_names l.initial.table (names_of_sides (group_variables l.listing) l.sides)
