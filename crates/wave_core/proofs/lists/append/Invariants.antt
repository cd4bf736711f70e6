use Rattle.std.proofs.Common.{◌≡◌, ◌++◌, take}
use Rattle.wave_core.proofs.lists.append.Given as goal

abbrev pub invariant-loop-added : goal.invariant-loop-added
invariant-loop-added l = l.records.items ≡ l.fn.records.items ++ take l.added-index l.row
