-- The words of the patterns in which one variable differs from all others.
use Rattle.std.proofs.Common.{◌≡◌, ◌≢◌, inl, inr, ℕ, zero, suc, ◌+◌, ◌*◌, ◌/◌, ◌%◌, ◌^◌, ◌<◌, ◌==◌, Bool, true, false, not, cond, ◌&&◌, refl, sym, ap, ◌∙◌, subst, eq-eqb, arith}
use Rattle.std.specs.Prelude.{bit_xor}
use Rattle.std.specs.Int.{bit_at}
use Rattle.std.proofs.lemmas.Bool.{cases_lt, ne_eqb}
use Rattle.net_simulate.specs.Columns.{bit_in}
use Rattle.net_simulate.proofs.Bits.{in_xor}
use Rattle.net_simulate.proofs.Lists.{same_or}
use Rattle.net_patterns.specs.Drawing.{single_bit}

-- a test for each number below n
abbrev all_below : ℕ → (ℕ → Bool) → Bool
all_below zero test = true
all_below (suc n) test = test n && all_below n test

abbrev same : Bool → Bool → Bool
same true b = b
same false b = not b

same_is : (a b : Bool) → same a b ≡ true → a ≡ b
same_is true true e = refl
same_is true false e = cc
same_is false true e = cc
same_is false false e = refl

first_true : (a b : Bool) → (a && b) ≡ true → a ≡ true
first_true true b e = refl
first_true false b e = cc

second_true : (a b : Bool) → (a && b) ≡ true → b ≡ true
second_true true b e = e
second_true false b e = cc

at_below : (n : ℕ) (test : ℕ → Bool) → all_below n test ≡ true → (i : ℕ) → i < n → test i ≡ true
at_below zero test all i low = absurd (omega arith)
at_below (suc n) test all i low = elim (cases_lt i n) [
  | inl less ↦ at_below n test (second_true (test n) (all_below n test) all) i less
  | inr most ↦ let e : n ≡ i = omega arith in subst (λ k. test k ≡ true) e (first_true (test n) (all_below n test) all)
]

in_odd : (i : ℕ) → i < 64 → bit_in i 0xaaaa_aaaa_aaaa_aaaa ≡ (i % 2 == 1)
unfolding bit_in
in_odd i low = same_is (bit_at 0xaaaa_aaaa_aaaa_aaaa i == 1) (i % 2 == 1) (at_below 64 (λ k. same (bit_at 0xaaaa_aaaa_aaaa_aaaa k == 1) (k % 2 == 1)) refl i low)

in_two : (h i : ℕ) → h < 32 → i < 64 → bit_in i (3 * 2 ^ (2 * h) % 2 ^ 64) ≡ (i / 2 == h)
unfolding bit_in
in_two h i low less =
    same_is (bit_at (3 * 2 ^ (2 * h) % 2 ^ 64) i == 1) (i / 2 == h)
    (at_below 64 (λ k. same (bit_at (3 * 2 ^ (2 * h) % 2 ^ 64) k == 1) (k / 2 == h))
    (at_below 32 (λ j. all_below 64 (λ k. same (bit_at (3 * 2 ^ (2 * j) % 2 ^ 64) k == 1) (k / 2 == j))) refl h low) i less)

equal_tests : (a b c d : ℕ) → (a ≡ b → c ≡ d) → (c ≡ d → a ≡ b) → (a == b) ≡ (c == d)
equal_tests a b c d to from = elim (same_or a b) [
  | inl e ↦ eq-eqb a b e ∙ sym (eq-eqb c d (to e))
  | inr ne ↦ ne_eqb a b ne ∙ sym (ne_eqb c d (λ e. ne (from e)))
]

is_odd_at : (word i : ℕ) → (i % 2 == 1) ≡ ((64 * word + i) % 2 == 1)
is_odd_at word i = let e : i % 2 ≡ (64 * word + i) % 2 = omega arith in ap (λ n. n == 1) e

-- the word of the level
pub in_single : (word level i : ℕ) → i < 64 → (level + 1) / 32 ≡ word →
    bit_in i (bit_xor 0xaaaa_aaaa_aaaa_aaaa (3 * 2 ^ (2 * ((level + 1) % 32)) % 2 ^ 64)) ≡ single_bit (64 * word + i) level
in_single word level i low own =
    in_xor i 0xaaaa_aaaa_aaaa_aaaa (3 * 2 ^ (2 * ((level + 1) % 32)) % 2 ^ 64) ∙
    ap (λ b. cond (bit_in i (3 * 2 ^ (2 * ((level + 1) % 32)) % 2 ^ 64)) (not b) b) (in_odd i low ∙ is_odd_at word i) ∙
    ap (λ b. cond b (not ((64 * word + i) % 2 == 1)) ((64 * word + i) % 2 == 1))
    (in_two ((level + 1) % 32) i (omega arith) low ∙ equal_tests (i / 2) ((level + 1) % 32) ((64 * word + i) / 2) (level + 1) (λ e. omega arith) (λ e. omega arith))

-- another word
pub in_other : (word level i : ℕ) → i < 64 → (level + 1) / 32 ≢ word → bit_in i 0xaaaa_aaaa_aaaa_aaaa ≡ single_bit (64 * word + i) level
in_other word level i low other =
    in_odd i low ∙ is_odd_at word i ∙
    ap (λ b. cond b (not ((64 * word + i) % 2 == 1)) ((64 * word + i) % 2 == 1))
    (sym (ne_eqb ((64 * word + i) / 2) (level + 1) (λ e. other (omega arith))))
