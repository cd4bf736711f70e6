use Rattle.std.proofs.Common.{◌≡◌, length, set}
use Rattle.expand_work.specs.Work.{at}
use Rattle.expand_work.proofs.Holding.{Keeping}
use Rattle.expand_work.proofs.receive.keep_own.Given as goal

abbrev pub invariant-loop-bundle : goal.invariant-loop-bundle
invariant-loop-bundle l =
    Keeping l.lanes l.initial.port l.port l.senders.clock l.initial.tables l.tables l.senders.noted (at l.initial.due l.own) (at l.due l.own) × (l.due ≡ set l.initial.due l.own (at l.due l.own))

abbrev pub decreases-loop-bundle : goal.decreases-loop-bundle
decreases-loop-bundle l = length (at l.due l.own)
