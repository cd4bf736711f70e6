use Rattle.std.proofs.Common.{◌≡◌, length}
use Rattle.net_bench.specs.Heights.{unranked_line}
use Rattle.net_bench.proofs.ranks.unranked_line.Given as goal

abbrev pub invariant-loop-gate : goal.invariant-loop-gate
invariant-loop-gate l = unranked_line l.heights l.rest ≡ unranked_line l.heights l.gates

abbrev pub decreases-loop-gate : goal.decreases-loop-gate
decreases-loop-gate l = length l.rest
