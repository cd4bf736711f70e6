-- Bits of words.
use Rattle.std.proofs.Common.{◌≡◌, ℕ, zero, suc, ◌+◌, ◌-◌, ◌<◌, ◌≤◌, ◌^◌, ◌%◌, ◌==◌, min, max, Bool, true, false, not, cond, ◌&&◌, ◌||◌, List, [], ◌∷◌, refl, sym, ap, ◌∙◌, length, get_or, set, w64, arith}
use Rattle.std.specs.Prelude.{bit_and, bit_or, bit_xor}
use Rattle.std.specs.Int.{bit_at}
use Rattle.std.proofs.lemmas.List.{get_or-map, map-set}
use Rattle.std.proofs.lemmas.Nat.Bits.{bit_at-zero, bit_at-lt, bit_at_and, bit_at_or, bit_at_xor, bit_at_not, bit_at_ones}
use Rattle.net_bench.specs.Labels.{bit_of}
use Rattle.net_simulate.specs.Columns.{bit_in, column}

min_one : (a b : ℕ) → a < 2 → b < 2 → (min a b == 1) ≡ ((a == 1) && (b == 1))
min_one zero zero p q = refl
min_one zero (suc zero) p q = refl
min_one (suc zero) zero p q = refl
min_one (suc zero) (suc zero) p q = refl
min_one (suc (suc a)) b p q = absurd (omega arith)
min_one a (suc (suc b)) p q = absurd (omega arith)

max_one : (a b : ℕ) → a < 2 → b < 2 → (max a b == 1) ≡ ((a == 1) || (b == 1))
max_one zero zero p q = refl
max_one zero (suc zero) p q = refl
max_one (suc zero) zero p q = refl
max_one (suc zero) (suc zero) p q = refl
max_one (suc (suc a)) b p q = absurd (omega arith)
max_one a (suc (suc b)) p q = absurd (omega arith)

sum_one : (a b : ℕ) → a < 2 → b < 2 → ((a + b) % 2 == 1) ≡ cond (b == 1) (not (a == 1)) (a == 1)
sum_one zero zero p q = refl
sum_one zero (suc zero) p q = refl
sum_one (suc zero) zero p q = refl
sum_one (suc zero) (suc zero) p q = refl
sum_one (suc (suc a)) b p q = absurd (omega arith)
sum_one a (suc (suc b)) p q = absurd (omega arith)

rest_one : (a : ℕ) → a < 2 → (1 - a == 1) ≡ not (a == 1)
rest_one zero p = refl
rest_one (suc zero) p = refl
rest_one (suc (suc a)) p = absurd (omega arith)

pub in_none : (i : ℕ) → bit_in i 0 ≡ false
unfolding bit_in
in_none i = ap (λ n. n == 1) (bit_at-zero i)

pub in_all : (i : ℕ) → i < 64 → bit_in i (2 ^ 64 - 1) ≡ true
unfolding bit_in
in_all i low = ap (λ n. n == 1) (bit_at_ones 64 i low)

pub in_and : (i a b : ℕ) → bit_in i (bit_and a b) ≡ (bit_in i a && bit_in i b)
unfolding bit_in
in_and i a b = ap (λ n. n == 1) (bit_at_and a b i) ∙ min_one (bit_at a i) (bit_at b i) (bit_at-lt a i) (bit_at-lt b i)

pub in_or : (i a b : ℕ) → bit_in i (bit_or a b) ≡ (bit_in i a || bit_in i b)
unfolding bit_in
in_or i a b = ap (λ n. n == 1) (bit_at_or a b i) ∙ max_one (bit_at a i) (bit_at b i) (bit_at-lt a i) (bit_at-lt b i)

pub in_xor : (i a b : ℕ) → bit_in i (bit_xor a b) ≡ cond (bit_in i b) (not (bit_in i a)) (bit_in i a)
unfolding bit_in
in_xor i a b = ap (λ n. n == 1) (bit_at_xor a b i) ∙ sum_one (bit_at a i) (bit_at b i) (bit_at-lt a i) (bit_at-lt b i)

pub in_not : (i n : ℕ) → n < 2 ^ 64 → i < 64 → bit_in i (2 ^ 64 - 1 - n) ≡ not (bit_in i n)
unfolding bit_in
in_not i n fits low = ap (λ n. n == 1) (bit_at_not w64 n i fits low) ∙ rest_one (bit_at n i) (bit_at-lt n i)

-- a signal's bit in a column is the bit of its value
pub in_column : {V : Type 0} (bit : ℕ → V → Bool) (i : ℕ) (vs : List V) (s : ℕ) (v : V) → s < length vs → v ≡ get_or vs s v → bit i v ≡ bit_of (column bit i vs) s
in_column bit i vs s v low is = ap (bit i) is ∙ sym (get_or-map (bit i) vs s v false low)

-- beyond the end a value is all 0
pub out_column : {V : Type 0} (bit : ℕ → V → Bool) (i : ℕ) (vs : List V) (s : ℕ) → length vs ≤ s → false ≡ bit_of (column bit i vs) s
out_column bit i [] zero high = refl
out_column bit i [] (suc s) high = refl
out_column bit i (v ∷ vs) zero high = absurd (omega arith)
out_column bit i (v ∷ vs) (suc s) high = out_column bit i vs s (omega arith)

pub set_column : {V : Type 0} (bit : ℕ → V → Bool) (i : ℕ) (vs : List V) (s : ℕ) (v : V) → column bit i (set vs s v) ≡ set (column bit i vs) s (bit i v)
set_column bit i vs s v = map-set (bit i) vs s v
