use Rattle.std.proofs.Common.{◌≡◌, ◌≢◌, ◌*◌, ◌<◌, ℕ, true}
use Rattle.net_simulate.specs.Columns.{bit_in_block}
use Rattle.net_patterns.proofs.apart.first_in_block.Given as goal

abbrev pub invariant-loop-place : goal.invariant-loop-place
invariant-loop-place l = (k : ℕ) → k < 64 * l.place → (bit_in_block k l.holds ≡ true) × (bit_in_block k l.first ≢ bit_in_block k l.second) → ⊥
