use Rattle.std.proofs.Common.{◌≡◌, map, take}
use Rattle.net_bench.specs.Circuit.{greatest, rank_of}
use Rattle.net_bench.proofs.netlist.Netlist.highest_rank.Given as goal

abbrev pub invariant-loop-gate : goal.invariant-loop-gate
invariant-loop-gate l = l.highest ≡ greatest (map (rank_of l.self) (take l.gate-index l.gate-items))
