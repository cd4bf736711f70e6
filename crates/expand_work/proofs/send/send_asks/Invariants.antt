use Rattle.std.proofs.Common.{◌≡◌, length, set}
use Rattle.expand_work.specs.Work.{at}
use Rattle.expand_work.proofs.Sending.{Sending}
use Rattle.expand_work.proofs.send.send_asks.Given as goal

abbrev pub invariant-loop-asks : goal.invariant-loop-asks
invariant-loop-asks g l = Sending l.initial.port l.port l.to (at l.initial.due l.to) (at l.due l.to) × (l.due ≡ set l.initial.due l.to (at l.due l.to))

abbrev pub decreases-loop-asks : goal.decreases-loop-asks
decreases-loop-asks g l = length (at l.due l.to)
