-- The steps of FORCE, and the variables in the order that they end with.
use Rattle.std.proofs.Common.{◌≡◌, ℕ, suc, ◌+◌, ◌-◌, ◌<◌, List, [], ◌∷◌, ◌++◌, Bool, true, false, refl, sym, ap, ◌∙◌, subst, length, map, arith, add-one, inl, inr, reverse, filter, All}
use Rattle.std.specs.Prelude.{cond, nat_lt, ◌==◌}
use Rattle.std.proofs.lemmas.Bool.Decides.{nat_tests}
use Rattle.std.proofs.lemmas.List.{map-append}
use Rattle.net_bench.proofs.Numbers.{or_cases}
use Rattle.net_order.specs.Force.{force_order, numbers_below, step, steps_of}
use Rattle.net_order.specs.Order.{NamedNetlistModel, force_numbers, graph_of, is_member}
use Rattle.net_order.proofs.Members.{all_of, equal_numbers, no_true}

-- one more step
pub steps_more : (edges : List (List ℕ)) (shares : List ℕ) (n i : ℕ) (places new : List ℕ) → i < n → new ≡ step edges shares places → steps_of edges shares (n - (i + 1)) new ≡ steps_of edges shares (n - i) places
unfolding steps_of
steps_more edges shares n i places new low is =
    let one : suc (n - (i + 1)) ≡ n - i = omega arith in
    ap (steps_of edges shares (n - (i + 1))) is ∙ ap (λ k. steps_of edges shares k places) one

-- a function mapped over the numbers below one more
pub mapped_more : (f : ℕ → ℕ) (n : ℕ) → map f (numbers_below (n + 1)) ≡ map f (numbers_below n) ++ f n ∷ []
unfolding numbers_below
mapped_more f n = rw add-one (map-append f (numbers_below n) (n ∷ []))

pub mapped_none : (f : ℕ → ℕ) → map f (numbers_below 0) ≡ []
unfolding numbers_below
mapped_none f = refl

either_low : (n v s : ℕ) (b : Bool) (rest : List ℕ) → nat_lt v n ≡ b → (is_member s rest ≡ true → s < n) → is_member s (cond b (v ∷ rest) rest) ≡ true → s < n
either_low n v s true rest is h e = elim (or_cases (v == s) (is_member s rest) e) [
  | inl same ↦ let low : v < n = grind (arith, nat_tests) in subst (λ k. k < n) (equal_numbers v s same) low
  | inr more ↦ h more
]
either_low n v s false rest is h e = h e

filter_low : (n : ℕ) (xs : List ℕ) (s : ℕ) → is_member s (filter (λ v. nat_lt v n) xs) ≡ true → s < n
filter_low n [] s e = absurd (no_true e)
filter_low n (v ∷ xs) s e = either_low n v s (nat_lt v n) (filter (λ w. nat_lt w n) xs) refl (filter_low n xs s) e

-- the numbers that remain are those of variables
pub forced_low : (names : List (List ℕ)) (sides given : List NamedNetlistModel) (s : ℕ) → is_member s (force_numbers names sides given) ≡ true → s < length names
unfolding force_numbers
forced_low names sides given s e = filter_low (length names) (reverse (force_order (length names) (graph_of names sides given))) s e

pub all_forced_low : (names : List (List ℕ)) (sides given : List NamedNetlistModel) (numbers : List ℕ) → numbers ≡ force_numbers names sides given → All (λ s. s < length names) numbers
all_forced_low names sides given numbers is = subst (All (λ s. s < length names)) (sym is) (all_of (λ s. s < length names) (force_numbers names sides given) (forced_low names sides given))
