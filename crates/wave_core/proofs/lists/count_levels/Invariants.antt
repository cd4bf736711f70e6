use Rattle.std.proofs.Common.{◌≡◌, ◌≤◌, ◌*◌, ◌^◌, take, sum}
use Rattle.wave_core.proofs.lists.count_levels.Given as goal

abbrev pub invariant-loop-level : goal.invariant-loop-level
invariant-loop-level l = record { counted : l.count ≡ sum (take l.level-index l.levels); bound : l.count ≤ l.level-index * 2 ^ 64 }
