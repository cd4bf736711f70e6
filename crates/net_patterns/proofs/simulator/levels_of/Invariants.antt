use Rattle.std.proofs.Common.{◌≡◌, map, take}
use Rattle.net_order.specs.Order.{level_in}
use Rattle.net_patterns.proofs.simulator.levels_of.Given as goal

abbrev pub invariant-loop-place : goal.invariant-loop-place
invariant-loop-place l = l.levels.items ≡ map (level_in l.naming l.part) (take l.place l.variables)
