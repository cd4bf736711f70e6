use Rattle.std.proofs.Common.{◌≡◌, ◌++◌, length}
use Rattle.reduce_up.specs.Steps.{AreRead}
use Rattle.reduce_up.proofs.reads.join_reads.Given as goal

abbrev pub invariant-loop-task : goal.invariant-loop-task
invariant-loop-task l = record {
  taken_so_far : l.yielded ++ l.task-iterator.rest.items ≡ l.fn.tasks.items;
  read : AreRead l.level (length l.yielded) l.parts.items l.origins.items;
}
