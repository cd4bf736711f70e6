use Rattle.std.proofs.Common.{◌≡◌, ◌+◌, ◌-◌}
use Rattle.reduce_up.specs.AnswersByLevel.{joined, ArePlaced}
use Rattle.wave_doors.proofs.results.grow.Given as goal

abbrev pub invariant-loop-alloc : goal.invariant-loop-alloc
invariant-loop-alloc l = record { same : joined l.rows.items ≡ joined l.fn.rows.items; placed : ArePlaced l.rows.items }

abbrev pub decreases-loop-alloc : goal.decreases-loop-alloc
decreases-loop-alloc l = l.place + 1 - l.rows.len
