use Rattle.std.proofs.Common.{◌≡◌, false, map, take, get_or}
use Rattle.counter_walk.proofs.least.by_level.Given as goal

-- the bits of the levels so far
abbrev pub invariant-loop-level : goal.invariant-loop-level
invariant-loop-level l = l.levels.items ≡ map (λ d. get_or l.bits d false) (take l.level l.order)
