use Rattle.std.proofs.Common.{take}
use Rattle.std.specs.List.{AllZip}
use Rattle.net_order.specs.Order.{HasLevels}
use Rattle.net_order.proofs.levels.all_levels.Given as goal

abbrev pub invariant-loop-i : goal.invariant-loop-i
invariant-loop-i l = AllZip (HasLevels l.table) (take l.i l.sides) l.all.items
