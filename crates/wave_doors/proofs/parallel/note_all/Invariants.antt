use Rattle.std.proofs.Common.{length}
use Rattle.reduce_up.specs.Sharing.{NotesFirst}
use Rattle.wave_doors.proofs.parallel.note_all.Given as goal

abbrev pub invariant-loop-entry : goal.invariant-loop-entry
invariant-loop-entry l = NotesFirst l.fn.results l.row l.answers (length l.yielded) l.results
