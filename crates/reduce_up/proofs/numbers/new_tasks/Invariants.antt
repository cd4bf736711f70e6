use Rattle.std.proofs.Common.{◌≡◌, ◌++◌, length}
use Rattle.reduce_up.specs.Numbers.{AreNew}
use Rattle.reduce_up.proofs.numbers.new_tasks.Given as goal

abbrev pub invariant-loop-own : goal.invariant-loop-own
invariant-loop-own l = record {
  taken_so_far : l.yielded ++ l.own-iterator.rest.items ≡ l.fn.rows.items;
  sender : l.sender ≡ length l.yielded;
  new : AreNew l.input (length l.yielded) l.yielded l.tasks.items;
}
