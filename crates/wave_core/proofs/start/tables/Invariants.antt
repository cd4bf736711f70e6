use Rattle.std.proofs.Common.{◌≡◌, [], replicate}
use Rattle.wave_core.proofs.start.tables.Given as goal

abbrev pub invariant-loop-made : goal.invariant-loop-made
invariant-loop-made l = l.tables.items ≡ replicate l.made []
