use Rattle.std.proofs.Common.{◌≡◌, ◌≤◌, ◌*◌, ◌^◌, take, length}
use Rattle.std.specs.List.{sum_by}
use Rattle.wave_core.proofs.lists.count_items.Given as goal

abbrev pub invariant-loop-list : goal.invariant-loop-list
invariant-loop-list l = record { counted : l.count ≡ sum_by length (take l.list-index l.lists); bound : l.count ≤ l.list-index * 2 ^ 64 }
