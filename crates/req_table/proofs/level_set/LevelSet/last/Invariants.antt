use Rattle.std.proofs.Common.{ℕ, ◌*◌, ◌+◌, ◌<◌, ◌≤◌, length}
use Rattle.req_table.specs.LevelSet.{IsMember}
use Rattle.req_table.proofs.level_set.LevelSet.last.Given as goal

abbrev pub invariant-loop-index : goal.invariant-loop-index
invariant-loop-index l = record {
  bound : l.index ≤ length l.self;
  near : 64 * l.index < l.end + 64;
  none : (w : ℕ) → 64 * l.index ≤ w → w < l.end → IsMember l.self w → ⊥;
}

abbrev pub decreases-loop-index : goal.decreases-loop-index
decreases-loop-index l = l.index
