-- The first of several numbers, after one more word or block.
use Rattle.std.proofs.Common.{◌≡◌, ◌≢◌, inl, inr, ℕ, ◌+◌, ◌-◌, ◌*◌, ◌/◌, ◌%◌, ◌<◌, ◌≤◌, ◌^◌, ◌==◌, Bool, true, false, not, cond, ◌&&◌, Option, Some, None, refl, sym, ap, ◌∙◌, subst, w64, arith}
use Rattle.std.specs.Prelude.{bit_and, bit_xor}
use Rattle.std.specs.Int.{bit_at, trailing_zeros}
use Rattle.std.proofs.lemmas.Bool.{cases_lt}
use Rattle.std.proofs.lemmas.Nat.Bits.{bit_at-trailing_zeros}
use Rattle.net_simulate.specs.Columns.{bit_in}
use Rattle.net_simulate.proofs.Bits.{in_and, in_none, in_xor}
use Rattle.net_patterns.specs.declared.counterexample.ShownPattern.{ShownPattern}
use Rattle.net_patterns.specs.Choices.{IsFirst, IsFirstWith, IsNext}

pub map_first : (D E : ℕ → Type 0) (count : ℕ) (o : Option ℕ) → ((k : ℕ) → k < count → D k → E k) → ((k : ℕ) → k < count → E k → D k) → IsFirst D count o → IsFirst E count o
map_first D E count None to from none = λ k low e. none k low (from k low e)
map_first D E count (Some n) to from some = (some.0, to n some.0 some.1, λ k less e. some.2 k less (from k (omega (arith, some.0)) e))

-- ---- words

is_in : (i n : ℕ) → bit_at n i ≡ 1 → bit_in i n ≡ true
unfolding bit_in
is_in i n e = ap (λ b. b == 1) e

is_out : (i n : ℕ) → bit_at n i ≡ 0 → bit_in i n ≡ false
unfolding bit_in
is_out i n e = ap (λ b. b == 1) e

pub no_one : (n : ℕ) → n ≡ 0 → (i : ℕ) → i < 64 → bit_in i n ≡ true → ⊥
no_one n none i low one = let out : bit_in i n ≡ false = ap (bit_in i) none ∙ in_none i in cc

pub lowest_one : (n : ℕ) → 0 < n → n < 2 ^ 64 → IsFirst (λ i. bit_in i n ≡ true) 64 (Some (trailing_zeros w64 n))
lowest_one n some fits =
    let (within, one, before) = bit_at-trailing_zeros w64 n some fits in
    (within, is_in (trailing_zeros w64 n) n one, λ k low e. let out : bit_in k n ≡ false = is_out k n (before k low) in cc)

apart_one : (a b : Bool) → a ≢ b → cond b (not a) a ≡ true
apart_one true true ne = absurd (ne refl)
apart_one true false ne = refl
apart_one false true ne = refl
apart_one false false ne = absurd (ne refl)

one_apart : (a b : Bool) → cond b (not a) a ≡ true → a ≢ b
one_apart true true e same = cc
one_apart true false e same = cc
one_apart false true e same = cc
one_apart false false e same = cc

both_one : (a b : Bool) → (a && b) ≡ true → (a ≡ true) × (b ≡ true)
both_one true true e = (refl, refl)
both_one true false e = cc
both_one false b e = cc

one_both : (a b : Bool) → a ≡ true → b ≡ true → (a && b) ≡ true
one_both true true e f = refl
one_both true false e f = cc
one_both false b e f = cc

pub word_apart : (a b h i : ℕ) → bit_in i (bit_and (bit_xor a b) h) ≡ true → (bit_in i h ≡ true) × (bit_in i a ≢ bit_in i b)
word_apart a b h i one =
    let both = both_one (bit_in i (bit_xor a b)) (bit_in i h) (sym (in_and i (bit_xor a b) h) ∙ one) in
    (both.1, one_apart (bit_in i a) (bit_in i b) (sym (in_xor i a b) ∙ both.0))

pub apart_word : (a b h i : ℕ) → (bit_in i h ≡ true) × (bit_in i a ≢ bit_in i b) → bit_in i (bit_and (bit_xor a b) h) ≡ true
apart_word a b h i (holds, apart) =
    in_and i (bit_xor a b) h ∙ one_both (bit_in i (bit_xor a b)) (bit_in i h) (in_xor i a b ∙ apart_one (bit_in i a) (bit_in i b) apart) holds

-- ---- one word of a block more

pub words_none : (W : ℕ → ℕ → Type 0) (place : ℕ) → ((k : ℕ) → k < 64 * place → W (k / 64) (k % 64) → ⊥) → ((r : ℕ) → r < 64 → W place r → ⊥) →
    (k : ℕ) → k < 64 * (place + 1) → W (k / 64) (k % 64) → ⊥
words_none W place before here k low w = elim (cases_lt k (64 * place)) [
  | inl early ↦ before k early w
  | inr late ↦ let e : k / 64 ≡ place = omega arith in here (k % 64) (omega arith) (subst (λ j. W j (k % 64)) e w)
]

pub words_some : (W : ℕ → ℕ → Type 0) (place r : ℕ) → place < 8 → ((k : ℕ) → k < 64 * place → W (k / 64) (k % 64) → ⊥) → IsFirst (W place) 64 (Some r) →
    IsFirst (λ k. W (k / 64) (k % 64)) 512 (Some (64 * place + r))
words_some W place r small before (low, here, none) =
    let row : place ≡ (64 * place + r) / 64 = omega arith in
    let column : r ≡ (64 * place + r) % 64 = omega arith in
    (omega arith, subst (λ j. W j ((64 * place + r) % 64)) row (subst (W place) column here), earlier)
  where
    earlier : (k : ℕ) → k < 64 * place + r → W (k / 64) (k % 64) → ⊥
    earlier k less w = elim (cases_lt k (64 * place)) [
      | inl early ↦ before k early w
      | inr late ↦ let e : k / 64 ≡ place = omega arith in none (k % 64) (omega arith) (subst (λ j. W j (k % 64)) e w)
    ]

-- ---- one block more

module _ (D A : ℕ → Type 0) (W : ℕ → Bool → Type 0) (V : ℕ → Bool) (block : ℕ) (to : (i : ℕ) → i < 512 → D (512 * block + i) → A i) (from : (i : ℕ) → i < 512 → A i → D (512 * block + i))
    (value : (i : ℕ) → i < 512 → W (512 * block + i) (V i)) where
  later : (i : ℕ) → 512 * block ≤ i → i < 512 * (block + 1) → D i → A (i - 512 * block)
  later i most low d = let e : i ≡ 512 * block + (i - 512 * block) = omega arith in to (i - 512 * block) (omega arith) (subst D e d)

  pub next_first : (e o : Option ShownPattern) → IsFirstWith D W (512 * block) e → IsNext A V block e o → IsFirstWith D W (512 * (block + 1)) o
  next_first (Some s) o ((low, here, before), first) next = subst (IsFirstWith D W (512 * (block + 1))) (sym next) ((omega arith, here, before), first)
  next_first None None none next = λ k low d. elim (cases_lt k (512 * block)) [
    | inl early ↦ none k early d
    | inr late ↦ next (k - 512 * block) (omega arith) (later k late low d)
  ]
  next_first None (Some s) none next = (
    (
      omega (arith, next.number, next.within),
      subst D (sym next.number) (from next.bit next.within next.holds),
      λ k less d. elim (cases_lt k (512 * block)) [
        | inl early ↦ none k early d
        | inr late ↦ next.before (k - 512 * block) (omega (arith, next.number)) (later k late (omega (arith, next.number, next.within)) d)
      ],
    ),
    subst (λ n. W n s.first) (sym next.number) (subst (W (512 * block + next.bit)) (sym next.value) (value next.bit next.within)),
  )
