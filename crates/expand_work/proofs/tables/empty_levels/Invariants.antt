use Rattle.std.proofs.Common.{◌≡◌, replicate, []}
use Rattle.expand_work.proofs.tables.empty_levels.Given as goal

abbrev pub invariant-loop-made : goal.invariant-loop-made
invariant-loop-made l = l.levels.items ≡ replicate l.made []
