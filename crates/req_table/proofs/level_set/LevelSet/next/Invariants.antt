use Rattle.std.proofs.Common.{ℕ, ◌*◌, ◌<◌, ◌≤◌}
use Rattle.req_table.specs.LevelSet.{IsMember}
use Rattle.req_table.proofs.level_set.LevelSet.next.Given as goal

abbrev pub invariant-loop-index : goal.invariant-loop-index
invariant-loop-index l = (w : ℕ) → l.from ≤ w → w < 64 * l.index → IsMember l.self w → ⊥
