use Rattle.std.proofs.Common.{◌≡◌, ◌<◌, ℕ, length}
use Rattle.std.specs.Prelude.{slice_index}
use Rattle.inside_check.proofs.levels.first_levels.Given as goal

abbrev pub invariant-loop-number : goal.invariant-loop-number
invariant-loop-number l = record {
  each : length l.levels.items ≡ l.number;
  same : (s : ℕ) → s < l.number → slice_index l.levels.items s ≡ slice_index l.naming.first s;
}
