use Rattle.std.proofs.Common.{◌≡◌, ℕ, ◌<◌, get_or, length}
use Rattle.compare_built.specs.PairSelection.{serpentine_share}
use Rattle.pair_facts.proofs.shares.shares_by.Given as goal

abbrev pub invariant-loop-position : goal.invariant-loop-position
invariant-loop-position l = record {
  each : length l.shares.items ≡ length l.order;
  shares_so_far : (k : ℕ) → k < l.position → get_or l.shares.items (get_or l.order k 0) 0 ≡ serpentine_share l.of k;
}
