use Rattle.lane_queue.specs.PortView.{lanes_scope}
use Rattle.expand_work.proofs.Closing.{closed_by_clock}
use Rattle.expand_work.proofs.receive.take_until_closed.Goals as goal

pub returns-then-closed-clause-closed : goal.returns-then-closed-clause-closed
returns-then-closed-clause-closed g c = closed_by_clock (lanes_scope c.args.context.lanes.now) c.loop-round.port.taken c.loop-round.senders.clock c.loop-round.tables c.args.level c.loop-round.invariant.1 (c.closed.ensures.0 c.if-closed.true)
