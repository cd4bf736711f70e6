use Rattle.std.proofs.Common.{◌≡◌, ◌⊎◌, ℕ, ◌<◌, true, get_or}
use Rattle.std.specs.Prelude.{Contains}
use Rattle.net_bench.specs.Labels.{bit_of}
use Rattle.net_explain.proofs.below.set_flags.Given as goal

abbrev pub invariant-loop-place : goal.invariant-loop-place
invariant-loop-place l = record {
  only : (s : ℕ) → bit_of l.visited s ≡ true → (bit_of l.initial.visited s ≡ true) ⊎ Contains l.signals s;
  kept : (s : ℕ) → bit_of l.initial.visited s ≡ true → bit_of l.visited s ≡ true;
  here : (k d : ℕ) → k < l.place → bit_of l.visited (get_or l.signals k d) ≡ true;
}
