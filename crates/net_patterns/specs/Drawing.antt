-- The words of patterns: the bits of one level in 64 patterns that follow one another.
use Rattle.std.specs.Prelude.{ℕ, ◌+◌, ◌*◌, ◌/◌, ◌%◌, ◌^◌, ◌==◌, Bool, not, if◌then◌else◌, bit_and, bit_or, bit_xor}
use Rattle.rand_core.specs.Steps.{stream_of}
use Rattle.rand_core.specs.Stream.{Stream, next_u64}
use Rattle.rand_xoshiro.specs.SplitMix64.{splitmix_steps}

-- Pattern 0 is all 0 and pattern 1 all 1. Then, for each level, only this level is 1 in one pattern, and only it is 0
-- in the next.
abbrev pub single_bit : (number level : ℕ) → Bool
single_bit number level = if number / 2 == level + 1 then not (number % 2 == 1) else (number % 2 == 1)

-- the generator SplitMix64 with the seed for a word of a level
abbrev pub draws : (word level : ℕ) → Stream
draws word level = stream_of splitmix_steps (bit_xor (word * 2 ^ 32 % 2 ^ 64) level)

-- Of two words, both by And for the third of each four words, by Or for the fourth, and otherwise the first.
abbrev pub combined : (word one two : ℕ) → ℕ
combined word one two = if word % 4 == 2 then bit_and one two else if word % 4 == 3 then bit_or one two else one

-- A word of pseudo-random bits, each 1 with a probability of a half; of each four words the third has fewer 1s, and the
-- fourth more.
unfoldable pub drawn_word : (word level : ℕ) → ℕ
drawn_word word level =
    let one = next_u64 (draws word level) in
    combined word one.0 (next_u64 one.1).0
