use Rattle.std.proofs.Common.{◌≡◌, length}
use Rattle.reduce_up.proofs.picking.pick_tasks.Given as goal

abbrev pub invariant-loop : goal.invariant-loop
invariant-loop l = length l.tasks.items ≡ l.counter
