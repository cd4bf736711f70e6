-- Flags of signals, which are set one at a time.
use Rattle.std.proofs.Common.{◌≡◌, ◌≢◌, ◌⊎◌, inl, inr, ℕ, zero, suc, ◌+◌, ◌<◌, List, [], ◌∷◌, ◌++◌, Bool, true, false, refl, sym, ◌∙◌, subst, length, get_or, arith}
use Rattle.std.proofs.Math.ListN.{set}
use Rattle.std.specs.Prelude.{nat_eq, Contains, All}
use Rattle.std.proofs.lemmas.List.{get_or-set_same, get_or-set_other}
use Rattle.net_cone.specs.Walk.{IsVisited, KeepsVisited, unvisited}

-- a flag after one was set is that one, or is as before
split : (ms : List Bool) (i s : ℕ) → (s ≡ i) ⊎ (get_or (set ms i true) s false ≡ get_or ms s false)
split ms i s =
    elim (nat_eq s i) as (λ b. nat_eq s i ≡ b → (s ≡ i) ⊎ (get_or (set ms i true) s false ≡ get_or ms s false)) [
      | true ↦ λ e. let same : s ≡ i = grind arith in inl same
      | false ↦ λ e. let other : s ≢ i = (λ f. grind arith) in inr (get_or-set_other ms i s true false other)
    ] refl

pub visited_here : (ms : List Bool) (i : ℕ) → i < length ms → IsVisited (set ms i true) i
visited_here ms i low = get_or-set_same ms i true false low

pub kept_set : (ms : List Bool) (i : ℕ) → i < length ms → KeepsVisited ms (set ms i true)
kept_set ms i low s was = elim (split ms i s) [
  | inl same ↦ subst (IsVisited (set ms i true)) (sym same) (visited_here ms i low)
  | inr as_was ↦ as_was ∙ was
]

last_in : (xs : List ℕ) (y : ℕ) → Contains (xs ++ y ∷ []) y
last_in [] y = (0, omega arith, refl)
last_in (x ∷ xs) y = let (i, low, at) = last_in xs y in (suc i, omega arith, at)

pub only_set : (ms : List Bool) (i : ℕ) (xs : List ℕ) (s : ℕ) → IsVisited (set ms i true) s → IsVisited ms s ⊎ ((s ≡ i) × Contains (xs ++ i ∷ []) s)
only_set ms i xs s now = elim (split ms i s) [
  | inl same ↦ inr (same, subst (Contains (xs ++ i ∷ [])) (sym same) (last_in xs i))
  | inr as_was ↦ inl (sym as_was ∙ now)
]

pub unvisited_set : (ms : List Bool) (i : ℕ) → i < length ms → get_or ms i false ≡ false → unvisited (set ms i true) + 1 ≡ unvisited ms
unvisited_set [] i low none = absurd (omega arith)
unvisited_set (true ∷ ms) zero low none = cc
unvisited_set (false ∷ ms) zero low none = refl
unvisited_set (true ∷ ms) (suc i) low none = unvisited_set ms i (omega arith) none
unvisited_set (false ∷ ms) (suc i) low none = let rest : unvisited (set ms i true) + 1 ≡ unvisited ms = unvisited_set ms i (omega arith) none in omega arith

pub still : (ms : List Bool) (i : ℕ) (xs : List ℕ) → i < length ms → All (λ s. IsVisited ms s) xs → All (λ s. IsVisited (set ms i true) s) (xs ++ i ∷ [])
still ms i [] low all zero d less = visited_here ms i low
still ms i [] low all (suc k) d less = absurd (omega arith)
still ms i (x ∷ xs) low all zero d less = kept_set ms i low x (all 0 d (omega arith))
still ms i (x ∷ xs) low all (suc k) d less = still ms i xs low (λ j e l. all (suc j) e (omega arith)) k d (omega arith)
