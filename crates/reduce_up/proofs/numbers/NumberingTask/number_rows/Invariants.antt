use Rattle.reduce_up.specs.Numbers.{IsNumberedTo}
use Rattle.reduce_up.proofs.numbers.NumberingTask.number_rows.Given as goal

abbrev pub invariant-loop-level : goal.invariant-loop-level
invariant-loop-level l = IsNumberedTo l.input l.sender l.level l.self
