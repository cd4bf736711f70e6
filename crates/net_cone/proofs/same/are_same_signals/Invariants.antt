use Rattle.std.proofs.Common.{◌≡◌, ◌<◌, ℕ, get_or, length}
use Rattle.net_cone.proofs.same.are_same_signals.Given as goal

abbrev pub invariant-loop-place : goal.invariant-loop-place
invariant-loop-place l = record {
  each : length l.ones ≡ length l.others;
  same : (k : ℕ) → k < l.place → get_or l.ones k 0 ≡ get_or l.others k 0;
}
