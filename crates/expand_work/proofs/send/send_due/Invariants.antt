use Rattle.expand_work.specs.Work.{at, SentToAll, put_items, put_loads}
use Rattle.expand_work.proofs.Sending.{IsLeftBelow}
use Rattle.expand_work.proofs.send.send_due.Given as goal

abbrev pub invariant-loop-to : goal.invariant-loop-to
invariant-loop-to g l =
    SentToAll l.initial.port l.port l.to (put_items l.initial.port.number (at l.initial.due)) (put_loads l.initial.port.number (at l.initial.due))
    × IsLeftBelow l.own l.to l.initial.due l.due
