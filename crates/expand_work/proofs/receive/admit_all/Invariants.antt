use Rattle.std.proofs.Common.{take}
use Rattle.expand_work.specs.PlacesBySender.{NotesPlaces}
use Rattle.expand_work.specs.Work.{Offered}
use Rattle.expand_work.proofs.receive.admit_all.Given as goal

abbrev pub invariant-loop-ask : goal.invariant-loop-ask
invariant-loop-ask l =
    Offered (take l.ask-index l.asks) l.initial.tables l.tables × NotesPlaces l.from (take l.ask-index l.asks) l.initial.tables l.tables l.initial.noted l.noted
