use Rattle.std.proofs.Common.{◌≡◌, map, take}
use Rattle.net_bench.specs.Circuit.{greatest}
use Rattle.gate_plan.specs.Building.{ranks_of}
use Rattle.gate_plan.proofs.sides.last_rank.Given as goal

abbrev pub invariant-loop-i : goal.invariant-loop-i
invariant-loop-i l = l.last ≡ greatest (map ranks_of (take l.i l.sides))
