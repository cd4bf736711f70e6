use Rattle.std.proofs.Common.{◌≡◌, ◌≤◌, ◌&&◌, not, take}
use Rattle.std.specs.Prelude.{count_by}
use Rattle.net_bench.specs.Labels.{bit_of}
use Rattle.net_explain.proofs.explanation.gate_count_of.Given as goal

abbrev pub invariant-loop-gate : goal.invariant-loop-gate
invariant-loop-gate l = record {
  all : l.all ≡ count_by (λ g. bit_of l.seen.below g.out) (take l.gate-index l.gate-items);
  outside : l.outside ≡ count_by (λ g. bit_of l.seen.below g.out && not (bit_of l.visited.items g.out)) (take l.gate-index l.gate-items);
  few : l.all ≤ l.gate-index;
  fewer : l.outside ≤ l.gate-index;
}
