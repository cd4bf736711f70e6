use Rattle.reduce_up.specs.Reducing.{IsRowReduced}
use Rattle.wave_doors.proofs.levels.reduce_row.Given as goal

abbrev pub invariant-loop-entry : goal.invariant-loop-entry
invariant-loop-entry l = IsRowReduced l.fn.store l.fn.results l.level l.row l.entry-index l.store l.results
