use Rattle.std.proofs.Common.{◌≡◌, ◌+◌, ◌*◌, ◌<◌, ℕ, [], get_or}
use Rattle.net_simulate.specs.Columns.{bit_in_block}
use Rattle.net_patterns.specs.Patterns.{pattern_bit}
use Rattle.net_patterns.proofs.patterns.Patterns.set_block.Given as goal

abbrev pub invariant-loop-level : goal.invariant-loop-level
invariant-loop-level l = (i : ℕ) → i < 512 → (k : ℕ) → k < l.level → bit_in_block i (get_or l.at k []) ≡ pattern_bit l.self (512 * l.block + i) k
