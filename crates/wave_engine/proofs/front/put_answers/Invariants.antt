use Rattle.std.proofs.Common.{◌≡◌, ◌≤◌}
use Rattle.wave_engine.specs.Front.{ArePut, count_before}
use Rattle.wave_engine.proofs.front.put_answers.Given as goal

abbrev pub invariant-loop-level : goal.invariant-loop-level
invariant-loop-level l = record {
  bound : l.from ≤ l.level;
  put : ArePut l.requests l.from l.found l.level l.answers.items;
  reached : l.at ≡ count_before l.from l.level l.requests;
}
