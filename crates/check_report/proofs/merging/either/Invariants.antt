use Rattle.std.proofs.Common.{◌≡◌, ◌<◌, ◌||◌, ℕ, false, length, slice_index_or}
use Rattle.check_report.proofs.merging.either.Given as goal

abbrev pub invariant-loop-place : goal.invariant-loop-place
invariant-loop-place l = record {
  each : length l.flags.items ≡ l.place;
  either : (i : ℕ) → i < l.place → slice_index_or l.flags.items i false ≡ (slice_index_or l.one i false || slice_index_or l.other i false);
}
