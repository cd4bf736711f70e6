use Rattle.std.proofs.Common.{◌≡◌, ◌++◌, length}
use Rattle.reduce_up.specs.Numbers.{AreRowsNumbered}
use Rattle.reduce_up.proofs.numbers.rows_of_tasks.Given as goal

abbrev pub invariant-loop-task : goal.invariant-loop-task
invariant-loop-task l = record {
  taken_so_far : l.yielded ++ l.task-iterator.rest.items ≡ l.fn.tasks.items;
  rows : AreRowsNumbered l.input (length l.yielded) l.all.items;
}
