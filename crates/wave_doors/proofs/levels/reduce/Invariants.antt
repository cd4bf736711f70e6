use Rattle.std.proofs.Common.{◌≤◌}
use Rattle.reduce_up.specs.Levels.{AreReducedFrom}
use Rattle.wave_doors.proofs.levels.reduce.Given as goal

abbrev pub invariant-loop-level : goal.invariant-loop-level
invariant-loop-level g l = record {
  bound : l.level ≤ l.fn.store.levels;
  reduced : AreReducedFrom l.fn.store l.records l.level l.store l.results;
}

abbrev pub decreases-loop-level : goal.decreases-loop-level
decreases-loop-level g l = l.level
