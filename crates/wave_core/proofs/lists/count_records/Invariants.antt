use Rattle.std.proofs.Common.{◌≡◌, ◌≤◌, ◌*◌, ◌^◌, take, length}
use Rattle.std.specs.List.{sum_by}
use Rattle.wave_core.proofs.lists.count_records.Given as goal

abbrev pub invariant-loop-row : goal.invariant-loop-row
invariant-loop-row l = record { counted : l.count ≡ sum_by length (take l.row-index l.rows); bound : l.count ≤ l.row-index * 2 ^ 64 }
