use Rattle.std.proofs.Common.{◌≡◌, ◌≤◌, ◌-◌, take, drop}
use Rattle.reduce_up.specs.AnswersByLevel.{joined}
use Rattle.wave_engine.proofs.front.frontier_of.Given as goal

abbrev pub invariant-loop-level : goal.invariant-loop-level
invariant-loop-level l = record {
  listed : l.front.items ≡ joined (take (l.level - l.from) (drop l.from l.requests));
  bound : l.from ≤ l.level;
}
