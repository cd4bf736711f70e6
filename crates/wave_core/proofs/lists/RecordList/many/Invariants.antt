use Rattle.std.proofs.Common.{◌≡◌, [], replicate}
use Rattle.wave_core.proofs.lists.RecordList.many.Given as goal

abbrev pub invariant-loop-made : goal.invariant-loop-made
invariant-loop-made l = l.lists.items ≡ replicate l.made []
