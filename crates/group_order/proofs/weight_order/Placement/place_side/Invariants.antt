use Rattle.std.proofs.Common.{◌≡◌}
use Rattle.std.specs.Prelude.{fold}
use Rattle.net_order.specs.Force.{numbers_below}
use Rattle.group_order.specs.WeightCones.{cones_of, with_root_variables}
use Rattle.group_order.proofs.weight_order.Placement.place_side.Given as goal

abbrev pub invariant-loop-root : goal.invariant-loop-root
invariant-loop-root l = l.self ≡ fold (with_root_variables l.side (cones_of l.side l.fn.self.placed)) l.fn.self (numbers_below l.root)
