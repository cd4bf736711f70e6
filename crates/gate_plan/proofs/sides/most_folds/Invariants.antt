use Rattle.std.proofs.Common.{◌≡◌, map, take}
use Rattle.net_bench.specs.Circuit.{greatest}
use Rattle.gate_plan.specs.Building.{folds_at}
use Rattle.gate_plan.proofs.sides.most_folds.Given as goal

abbrev pub invariant-loop-i : goal.invariant-loop-i
invariant-loop-i l = l.most ≡ greatest (map (folds_at l.rank) (take l.i l.sides))
