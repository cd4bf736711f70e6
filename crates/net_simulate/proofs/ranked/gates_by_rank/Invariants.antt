use Rattle.std.proofs.Common.{◌≡◌, map, length, take}
use Rattle.net_bench.specs.Circuit.{highest_rank}
use Rattle.net_simulate.proofs.Rows.{AreRowsOf}
use Rattle.net_simulate.proofs.ranked.gates_by_rank.Given as goal

abbrev pub invariant-loop-gate : goal.invariant-loop-gate
invariant-loop-gate l = record {
  count : length (map (λ w. w.items) l.rows.items) ≡ highest_rank l.net;
  rows : AreRowsOf l.net (take l.gate-index l.gates) (map (λ w. w.items) l.rows.items);
}
