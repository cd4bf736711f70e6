use Rattle.std.proofs.Common.{◌≡◌, ◌+◌, ◌*◌, ◌<◌, ℕ, length}
use Rattle.net_simulate.specs.Columns.{bit_in_block}
use Rattle.net_patterns.specs.Patterns.{pattern_bit}
use Rattle.net_patterns.proofs.patterns.Patterns.level_block.Given as goal

abbrev pub invariant-loop-place : goal.invariant-loop-place
invariant-loop-place l = record {
  each : length l.words ≡ 8;
  bits : (i : ℕ) → i < 64 * l.place → bit_in_block i l.words ≡ pattern_bit l.self (512 * l.block + i) l.level;
}
