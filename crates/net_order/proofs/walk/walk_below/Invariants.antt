use Rattle.std.specs.Prelude.{fold, reverse}
use Rattle.net_bench.specs.Circuit.{circuit}
use Rattle.net_order.specs.Order.{below, with_number}
use Rattle.net_order.specs.Walk.{IsWalk, steps_left}
use Rattle.net_order.proofs.walk.walk_below.Given as goal

abbrev pub invariant-loop-frame : goal.invariant-loop-frame
invariant-loop-frame l =
    IsWalk l.ordered_net.operand_order (circuit l.ordered_net.net.now) (fold with_number l.fn.found.items (below l.ordered_net.operand_order (circuit l.ordered_net.net.now) l.root)) l.found.items l.seen.items (reverse l.stack.items)

abbrev pub decreases-loop-frame : goal.decreases-loop-frame
decreases-loop-frame l = steps_left l.ordered_net.operand_order (circuit l.ordered_net.net.now) (reverse l.stack.items)
