use Rattle.std.proofs.Common.{◌≡◌, length, map, take}
use Rattle.net_bench.specs.Circuit.{greatest, rank_of}
use Rattle.gate_plan.specs.Plans.{Plans}
use Rattle.gate_plan.proofs.steps.Plan.new.Given as goal

abbrev pub invariant-loop-gate : goal.invariant-loop-gate
invariant-loop-gate l = record {
  count : length l.ranks.items ≡ greatest (map (rank_of l.netlist) l.gate-items);
  plans : Plans l.netlist (take l.gate-index l.gate-items) l.ranks.items;
}
