use Rattle.std.proofs.Common.{◌≡◌, ◌++◌, length}
use Rattle.reduce_up.specs.Division.{ArePicked}
use Rattle.reduce_up.proofs.picking.join_picked.Given as goal

abbrev pub invariant-loop-task : goal.invariant-loop-task
invariant-loop-task l = record {
  taken_so_far : l.yielded ++ l.task-iterator.rest.items ≡ l.fn.tasks.items;
  picked : ArePicked l.parts l.origins l.refs (length l.yielded) l.answers.items;
}
