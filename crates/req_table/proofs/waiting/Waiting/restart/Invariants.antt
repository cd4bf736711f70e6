use Rattle.std.proofs.Common.{◌≡◌, [], ◌≤◌, ◌-◌, length}
use Rattle.req_table.specs.Places.{AreNone}
use Rattle.req_table.proofs.waiting.Waiting.restart.Given as goal

abbrev pub invariant-loop-level : goal.invariant-loop-level
invariant-loop-level l = record {
  levels : length l.self ≡ l.levels;
  bound : l.from ≤ l.levels;
  keys : l.keys ≡ [];
  before : AreNone l.self 0 l.from;
}

abbrev pub decreases-loop-level : goal.decreases-loop-level
decreases-loop-level l = l.levels - l.from
