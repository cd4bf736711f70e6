use Rattle.std.proofs.Common.{◌≡◌, replicate, []}
use Rattle.expand_work.proofs.due.Due.new.Given as goal

abbrev pub invariant-loop-made : goal.invariant-loop-made
invariant-loop-made l = l.lists.items ≡ replicate l.made []
