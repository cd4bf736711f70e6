-- The hash of two words. Proofs know of it only that it is a function of both.
use Rattle.std.specs.Prelude.{ℕ, ◌*◌, ◌/◌, ◌%◌, ◌^◌, bit_xor}
use Rattle.std.specs.Int.{rotate_left, w64}

unfoldable pub mix_of : ℕ → ℕ → ℕ
mix_of a b = rotate_left w64 (bit_xor (a * 11400714819323198485 % 2 ^ 64) b) 32 * 15485907386658061715 % 2 ^ 64 / 2 ^ 32
