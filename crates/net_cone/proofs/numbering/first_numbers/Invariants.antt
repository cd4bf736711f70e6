use Rattle.std.proofs.Common.{◌≡◌, ℕ, ◌<◌, length, get_or}
use Rattle.net_cone.proofs.numbering.first_numbers.Given as goal

abbrev pub invariant-loop-place : goal.invariant-loop-place
invariant-loop-place l = record {
  count : length l.signals.items ≡ l.place;
  each : (i d : ℕ) → i < l.place → get_or l.signals.items i d ≡ i;
}
