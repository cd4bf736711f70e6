use Rattle.std.proofs.Common.{arith}
use Rattle.std.specs.Prelude.{reverse}
use Rattle.net_bench.specs.Circuit.{circuit}
use Rattle.net_order.specs.declared.walk.Frame.TheVariants.{Leave}
use Rattle.net_order.proofs.Walks.{taken_frame, visited_left, leave_low}
use Rattle.net_order.proofs.walk.walk_below.Goals as goal

pub index_mut-requires : goal.index_mut-requires
index_mut-requires c =
    let low = leave_low c.args.ordered_net.now.operand_order (circuit c.args.ordered_net.now.net.now) _ c.loop-frame.found.items c.loop-frame.seen.items c.in-Leave.signal (reverse c.pop.new.self.items)
    (taken_frame c.args.ordered_net.now.operand_order (circuit c.args.ordered_net.now.net.now) _ c.loop-frame.found.items c.loop-frame.seen.items c.loop-frame.stack.items c.pop.new.self.items c.in-Some.frame (Leave c.in-Leave.signal) c.in-Some.ensures.items c.in-Leave.is c.loop-frame.invariant) in
    omega (arith, low, c.loop-frame.seen.ok.0)

pub loop-frame-preserved : goal.loop-frame-preserved
loop-frame-preserved c =
    visited_left c.args.ordered_net.now.operand_order (circuit c.args.ordered_net.now.net.now) _ c.loop-frame.found.items c.loop-frame.seen.items c.in-Leave.signal (reverse c.pop.new.self.items)
    (taken_frame c.args.ordered_net.now.operand_order (circuit c.args.ordered_net.now.net.now) _ c.loop-frame.found.items c.loop-frame.seen.items c.loop-frame.stack.items c.pop.new.self.items c.in-Some.frame (Leave c.in-Leave.signal) c.in-Some.ensures.items c.in-Leave.is c.loop-frame.invariant)
