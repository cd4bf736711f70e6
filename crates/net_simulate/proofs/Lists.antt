-- Lists, one place further.
use Rattle.std.proofs.Common.{◌≡◌, ◌≢◌, ◌⊎◌, inl, inr, ℕ, zero, suc, ◌+◌, ◌<◌, ◌≤◌, List, [], ◌∷◌, ◌++◌, refl, sym, ap, ◌∙◌, length, get_or, take, drop, add-one, drop-cons, arith}
use Rattle.std.specs.Prelude.{Contains, All}
use Rattle.std.proofs.lemmas.Bool.{cases_lt}
use Rattle.std.proofs.lemmas.List.{take_more, get_or_default}

pub same_or : (s t : ℕ) → (s ≡ t) ⊎ (s ≢ t)
same_or s t = elim (cases_lt s t) [
  | inl less ↦ inr (λ e. omega arith)
  | inr most ↦ elim (cases_lt t s) [
    | inl more ↦ inr (λ e. omega arith)
    | inr least ↦ inl (omega arith)
  ]
]

pub contained_at : {X : Type 0} (xs : List X) (i : ℕ) (d : X) → i < length xs → Contains xs (get_or xs i d)
contained_at xs i d low = (i, low, get_or_default xs i (get_or xs i d) d low)

pub all_of : {X : Type 0} (P : X → Type 0) (xs : List X) → ((x : X) → Contains xs x → P x) → All P xs
all_of P xs h i d low = h (get_or xs i d) (contained_at xs i d low)

pub drop_here : {X : Type 0} (xs : List X) (i : ℕ) (x : X) → i < length xs → x ≡ get_or xs i x → drop i xs ≡ x ∷ drop (i + 1) xs
drop_here xs i x low is = rw add-one (drop-cons xs i x low ∙ ap (λ y. y ∷ drop (suc i) xs) (sym is))

pub drop_all : {X : Type 0} (xs : List X) (i : ℕ) → length xs ≤ i → drop i xs ≡ []
drop_all [] zero high = refl
drop_all [] (suc i) high = refl
drop_all (x ∷ xs) zero high = absurd (omega arith)
drop_all (x ∷ xs) (suc i) high = drop_all xs i (omega arith)

pub taken_more : {X : Type 0} (xs : List X) (i : ℕ) (x : X) → i < length xs → x ≡ get_or xs i x → take (i + 1) xs ≡ take i xs ++ x ∷ []
taken_more xs i x low is = take_more xs i x low ∙ ap (λ y. take i xs ++ y ∷ []) (sym is)

pub in_last : {X : Type 0} (xs : List X) (x y : X) → Contains (xs ++ x ∷ []) y → Contains xs y ⊎ (x ≡ y)
in_last [] x y (zero, low, at) = inr at
in_last [] x y (suc i, low, at) = absurd (omega arith)
in_last (z ∷ xs) x y (zero, low, at) = inl (0, omega arith, at)
in_last (z ∷ xs) x y (suc i, low, at) = elim (in_last xs x y (i, omega arith, at)) [
  | inl (j, less, is) ↦ inl (suc j, omega arith, is)
  | inr is ↦ inr is
]

pub in_take : {X : Type 0} (xs : List X) (i : ℕ) (y : X) → Contains (take i xs) y → Contains xs y
in_take [] zero y (j, low, at) = absurd (omega arith)
in_take [] (suc i) y (j, low, at) = absurd (omega arith)
in_take (x ∷ xs) zero y (j, low, at) = absurd (omega arith)
in_take (x ∷ xs) (suc i) y (zero, low, at) = (0, omega arith, at)
in_take (x ∷ xs) (suc i) y (suc j, low, at) = let (k, less, is) = in_take xs i y (j, omega arith, at) in (suc k, omega arith, is)
