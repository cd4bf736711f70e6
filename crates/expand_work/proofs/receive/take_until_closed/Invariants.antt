use Rattle.std.proofs.Common.{◌≡◌, length}
use Rattle.expand_work.specs.PlacesBySender.{IsNoted}
use Rattle.lane_queue.specs.PortView.{lanes_scope}
use Rattle.expand_work.specs.Work.{IsReceived, StaysClosed}
use Rattle.expand_work.proofs.receive.take_until_closed.Given as goal

abbrev pub invariant-loop-round : goal.invariant-loop-round
invariant-loop-round g l =
    (l.port ≡ record l.initial.port { popped = l.port.popped; taken = l.port.taken })
    × IsReceived (lanes_scope l.context.lanes.now) l.port.taken l.senders.clock l.tables
    × StaysClosed (lanes_scope l.context.lanes.now) l.initial.port.taken l.port.taken l.initial.tables l.tables
    × IsNoted (length l.context.lanes.now.lanes) l.port.taken l.tables l.senders.noted
