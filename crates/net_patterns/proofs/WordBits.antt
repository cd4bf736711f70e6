-- Bits of blocks and of patterns, after one more word.
use Rattle.std.proofs.Common.{◌≡◌, inl, inr, ℕ, ◌+◌, ◌*◌, ◌/◌, ◌%◌, ◌<◌, ◌≤◌, Bool, true, false, List, [], sym, ap, ◌∙◌, subst, length, get_or, set, cond, arith}
use Rattle.std.specs.Prelude.{nat_lt}
use Rattle.std.proofs.lemmas.Bool.{cases_lt}
use Rattle.std.proofs.lemmas.Bool.Decides.{nat_tests}
use Rattle.std.proofs.lemmas.List.{get_or-map, get_or-set_other, get_or-set_same, length-map}
use Rattle.std.proofs.lemmas.List.FromFn.{fill_by_all}
use Rattle.net_simulate.specs.Columns.{bit_in, bit_in_block, column}
use Rattle.net_patterns.specs.declared.patterns.Patterns.{Patterns}
use Rattle.net_patterns.specs.Drawing.{drawn_word, single_bit}
use Rattle.net_patterns.specs.Patterns.{pattern, pattern_bit, single_words}

-- one more word of a block
pub words_more : (F : ℕ → Bool) (words : List ℕ) (place w : ℕ) → place < length words → ((i : ℕ) → i < 64 * place → bit_in_block i words ≡ F i) →
    ((r : ℕ) → r < 64 → bit_in r w ≡ F (64 * place + r)) → (i : ℕ) → i < 64 * (place + 1) → bit_in_block i (set words place w) ≡ F i
words_more F words place w low before here i less = elim (cases_lt i (64 * place)) [
  | inl early ↦ ap (bit_in (i % 64)) (get_or-set_other words place (i / 64) w 0 (λ e. omega arith)) ∙ before i early
  | inr late ↦
      let e : i / 64 ≡ place = omega arith in
      let at : 64 * place + i % 64 ≡ i = omega arith in
      ap (λ j. bit_in (i % 64) (get_or (set words place w) j 0)) e ∙ ap (bit_in (i % 64)) (get_or-set_same words place w 0 low) ∙ here (i % 64) (omega arith) ∙ ap F at
]

-- one more level
pub levels_more : (F : ℕ → Bool) (i : ℕ) (at : List (List ℕ)) (level : ℕ) (words : List ℕ) → level < length at → ((k : ℕ) → k < level → bit_in_block i (get_or at k []) ≡ F k) →
    bit_in_block i words ≡ F level → (k : ℕ) → k < level + 1 → bit_in_block i (get_or (set at level words) k []) ≡ F k
levels_more F i at level words low before here k less = elim (cases_lt k level) [
  | inl early ↦ ap (bit_in_block i) (get_or-set_other at level k words [] (λ e. omega arith)) ∙ before k early
  | inr late ↦
      let e : level ≡ k = omega arith in
      subst (λ j. bit_in_block i (get_or (set at level words) j []) ≡ F j) e (ap (bit_in_block i) (get_or-set_same at level words [] low) ∙ here)
]

-- all levels
pub level_bits : (p : Patterns) (number i : ℕ) (at : List (List ℕ)) → length at ≡ p.variables → ((k : ℕ) → k < p.variables → bit_in_block i (get_or at k []) ≡ pattern_bit p number k) →
    column bit_in_block i at ≡ pattern p number
level_bits p number i at each bits =
    fill_by_all (pattern_bit p number) (column bit_in_block i at) p.variables false (length-map at (bit_in_block i) ∙ each)
    (λ k low. get_or-map (bit_in_block i) at k [] false (omega arith) ∙ bits k low)

-- the bits of a word of the first patterns, and of a pseudo-random one
pub in_first : (p : Patterns) (word level i : ℕ) → i < 64 → word < single_words p → single_bit (64 * word + i) level ≡ pattern_bit p (64 * word + i) level
in_first p word level i low less =
    let before : nat_lt (64 * word + i) (64 * single_words p) ≡ true = grind (arith, nat_tests) in
    ap (λ b. cond b (single_bit (64 * word + i) level) (bit_in ((64 * word + i) % 64) (drawn_word ((64 * word + i) / 64) level))) (sym before)

pub in_drawn : (p : Patterns) (word level i : ℕ) → i < 64 → single_words p ≤ word → bit_in i (drawn_word word level) ≡ pattern_bit p (64 * word + i) level
in_drawn p word level i low most =
    let after : nat_lt (64 * word + i) (64 * single_words p) ≡ false = grind (arith, nat_tests) in
    let e : i ≡ (64 * word + i) % 64 = omega arith in
    let f : word ≡ (64 * word + i) / 64 = omega arith in
    ap (λ k. bit_in k (drawn_word word level)) e ∙ ap (λ k. bit_in ((64 * word + i) % 64) (drawn_word k level)) f ∙
    ap (λ b. cond b (single_bit (64 * word + i) level) (bit_in ((64 * word + i) % 64) (drawn_word ((64 * word + i) / 64) level))) (sym after)
