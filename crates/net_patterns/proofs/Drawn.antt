-- What SplitMix64 draws for a word.
use Rattle.std.proofs.Common.{◌≡◌, ◌*◌, ◌%◌, ◌^◌, ℕ, ap, ◌∙◌}
use Rattle.std.specs.Prelude.{bit_xor}
use Rattle.rand_core.specs.Stream.{Stream, next_u64}
use Rattle.rand_core.specs.Steps.{stream_of}
use Rattle.rand_xoshiro.specs.SplitMix64.{splitmix_steps}
use Rattle.net_patterns.specs.Drawing.{combined, drawn_word, draws}

abbrev from : ℕ → Stream
from state = stream_of splitmix_steps state

second_is : (two one old : ℕ) (after later : Stream) → (one, after) ≡ next_u64 (from old) → (two, later) ≡ next_u64 after → two ≡ (next_u64 (next_u64 (from old)).1).0
second_is two one old after later first second = ap (λ (q : ℕ × Stream). q.0) second ∙ ap (λ (q : ℕ × Stream). (next_u64 q.1).0) first

pub drawn : (word level one two old middle new : ℕ) → old ≡ bit_xor (word * 2 ^ 32 % 2 ^ 64) level → (one, from middle) ≡ next_u64 (from old) → (two, from new) ≡ next_u64 (from middle) →
    combined word one two ≡ drawn_word word level
unfolding drawn_word
drawn word level one two old middle new seeded first second =
    ap (λ n. combined word n two) (ap (λ (q : ℕ × Stream). q.0) first ∙ ap (λ s. (next_u64 (from s)).0) seeded) ∙
    ap (λ n. combined word (next_u64 (draws word level)).0 n) (second_is two one old (from middle) (from new) first second ∙ ap (λ s. (next_u64 (next_u64 (from s)).1).0) seeded)
