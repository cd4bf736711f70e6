use Rattle.std.proofs.Common.{◌≡◌, ℕ, ◌+◌, ◌<◌, get_or, length}
use Rattle.pair_facts.proofs.shares.sums_of.Given as goal

abbrev pub invariant-loop-place : goal.invariant-loop-place
invariant-loop-place l = record {
  each : length l.sums.items ≡ l.place;
  sums : (k : ℕ) → k < l.place → get_or l.sums.items k 0 ≡ get_or l.ones k 0 + get_or l.others k 0;
}
