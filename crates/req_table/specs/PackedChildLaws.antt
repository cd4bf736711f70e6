-- The word of a child determines the child, and the child its word.
use Rattle.std.specs.Prelude.{◌≡◌, ℕ, ◌-◌, ◌*◌, ◌/◌, ◌%◌, ◌^◌, ◌<◌, ◌≤◌, ◌==◌, Bool, if◌then◌else◌}
use Rattle.std.proofs.Common.{◌∙◌, ap, arith, inl, inr}
use Rattle.std.proofs.lemmas.Bool.Decides.{nat_tests}
use Rattle.dd_store.specs.Words.{reference_of, IsWord}
use Rattle.dd_store.specs.WordLaws.{low_bit, word_of-reference_of, short_or_long, small_word}
use Rattle.req_table.specs.declared.packed_child.PlacedChild.TheVariants.{Done, Ask}
use Rattle.req_table.specs.PackedChildWords.{short_numbers, near_word, far_word, long_word, ask_word, packed_child_word, long_of, packed_child_of, IsNearWord, IsFarWord, IsPackedChildWord}

-- ---- what the words of each kind are
short_answer : (w : ℕ) → w < 2 ^ 31 → packed_child_of w ≡ Done (reference_of w)
short_answer w short = grind (arith, nat_tests)

pub long_answer : (w : ℕ) → 2 ^ 32 ≤ w → w < 2 ^ 63 → packed_child_of w ≡ Done (reference_of w)
long_answer w long small = grind (arith, nat_tests)

pub answer : (w : ℕ) → IsWord w → packed_child_of w ≡ Done (reference_of w)
answer w h = let small = small_word w h in elim (short_or_long w h) [
  | inl short ↦ short_answer w short
  | inr long ↦ long_answer w (omega arith) (omega arith)
]

near : (w : ℕ) → IsNearWord w → packed_child_of w ≡ Ask (w % 2 ^ 30 / 2 ^ 22) (w % 2 ^ 22 / 2) (w % 2 == 1)
near w h = grind (arith, nat_tests)

far : (w : ℕ) → IsFarWord w → packed_child_of w ≡ Ask (w % 2 ^ 30 / 2 ^ 18) (w % 2 ^ 18 / 2) (w % 2 == 1)
far w h = grind (arith, nat_tests)

pub long : (w : ℕ) → 2 ^ 63 ≤ w → packed_child_of w ≡ long_of w
long w big = grind (arith, nat_tests)

-- ---- which words requests have
near_ask : (l n : ℕ) (m : Bool) → l < 256 → n < 2 ^ 21 → ask_word l n m ≡ near_word l n m
near_ask l n m level number = grind (arith, nat_tests)

far_ask : (l n : ℕ) (m : Bool) → 256 ≤ l → l < 4096 → n < 2 ^ 17 → ask_word l n m ≡ far_word l n m
far_ask l n m first level number = grind (arith, nat_tests)

long_ask : (l n : ℕ) (m : Bool) → short_numbers l ≤ n → ask_word l n m ≡ long_word l n m
long_ask l n m number = grind (arith, nat_tests)

-- bit 62 of a long request is its complement bit
complement_bit : (w : ℕ) → 2 ^ 63 ≤ w → w < 2 ^ 64 → (if w / 2 ^ 62 == 3 then 2 ^ 62 else 0) ≡ w / 2 ^ 62 * 2 ^ 62 - 2 ^ 63
complement_bit w big small = grind (arith, nat_tests)

-- the word of what a word says is this word
pub packed_child_word-packed_child_of : (w : ℕ) → IsPackedChildWord w → packed_child_word (packed_child_of w) ≡ w
packed_child_word-packed_child_of w (inl h) = ap packed_child_word (answer w h) ∙ word_of-reference_of w h
packed_child_word-packed_child_of w (inr (inl h)) =
    let bit = low_bit w in
    let made : near_word (w % 2 ^ 30 / 2 ^ 22) (w % 2 ^ 22 / 2) (w % 2 == 1) ≡ w = omega arith in
    ap packed_child_word (near w h)
    ∙ near_ask (w % 2 ^ 30 / 2 ^ 22) (w % 2 ^ 22 / 2) (w % 2 == 1) (omega arith) (omega arith)
    ∙ made
packed_child_word-packed_child_of w (inr (inr (inl h))) =
    let bit = low_bit w in
    let made : far_word (w % 2 ^ 30 / 2 ^ 18) (w % 2 ^ 18 / 2) (w % 2 == 1) ≡ w = omega arith in
    ap packed_child_word (far w h)
    ∙ far_ask (w % 2 ^ 30 / 2 ^ 18) (w % 2 ^ 18 / 2) (w % 2 == 1) (omega arith) (omega arith) (omega arith)
    ∙ made
packed_child_word-packed_child_of w (inr (inr (inr h))) =
    let bit = complement_bit w h.0 h.1 in
    let made : long_word (w % 2 ^ 62 / 2 ^ 32) (w % 2 ^ 32) (w / 2 ^ 62 == 3) ≡ w = omega arith in
    ap packed_child_word (long w h.0)
    ∙ long_ask (w % 2 ^ 62 / 2 ^ 32) (w % 2 ^ 32) (w / 2 ^ 62 == 3) h.3
    ∙ made

-- the level of a long request has 16 bits
pub long_level : (w : ℕ) → IsPackedChildWord w → 2 ^ 63 ≤ w → w % 2 ^ 62 < 2 ^ 48
long_level w (inl h) big = let small = small_word w h in absurd (omega arith)
long_level w (inr (inl h)) big = absurd (omega arith)
long_level w (inr (inr (inl h))) big = absurd (omega arith)
long_level w (inr (inr (inr h))) big = h.2
