-- Lists of distinct items, one after the other.
use Rattle.std.proofs.Common.{◌≡◌, ℕ, zero, suc, ◌+◌, ◌⊎◌, inl, inr, List, [], ◌∷◌, ◌++◌, length, slice_get, Some, arith}
use Rattle.slot_table.specs.Lists.{IsIn, IsOnce}

pub append_cases : {X : Type 0} (a b : List X) (i : ℕ) (x : X) → slice_get (a ++ b) i ≡ Some x → (slice_get a i ≡ Some x) ⊎ ((j : ℕ) × (i ≡ length a + j) × (slice_get b j ≡ Some x))
append_cases [] b i x h = inr (i, omega arith, h)
append_cases (y ∷ a) b zero x h = inl h
append_cases (y ∷ a) b (suc i) x h = elim (append_cases a b i x h) [ inl g ↦ inl g | inr g ↦ inr (g.0, (let e = g.1 in omega (arith, e)), g.2) ]

pub once_append : {X : Type 0} (a b : List X) → IsOnce a → IsOnce b → ((x : X) → IsIn a x → IsIn b x → ⊥) → IsOnce (a ++ b)
once_append a b one two apart i j x e f = by (append_cases a b i x e) (append_cases a b j x f)
  where
    by : (slice_get a i ≡ Some x) ⊎ ((k : ℕ) × (i ≡ length a + k) × (slice_get b k ≡ Some x)) → (slice_get a j ≡ Some x) ⊎ ((k : ℕ) × (j ≡ length a + k) × (slice_get b k ≡ Some x)) → i ≡ j
    by (inl g) (inl h) = one i j x g h
    by (inl g) (inr h) = absurd (apart x (i, g) (h.0, h.2))
    by (inr g) (inl h) = absurd (apart x (j, h) (g.0, g.2))
    by (inr g) (inr h) = let s : g.0 ≡ h.0 = two g.0 h.0 x g.2 h.2 in let e = g.1 in let f = h.1 in omega (arith, e, f, s)
