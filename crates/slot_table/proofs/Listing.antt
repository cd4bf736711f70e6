-- Lists of distinct items: adding an absent item, and appending.
use Rattle.std.proofs.Common.{◌≡◌, ◌∙◌, ℕ, zero, suc, List, [], ◌∷◌, ◌++◌, slice_get, Some, sym, ap, ◌⊎◌, inl, inr}
use Rattle.slot_table.specs.Lists.{IsIn, IsOnce}
use Rattle.slot_table.proofs.Places.{slice_get-append, slice_get_cases-push}

pub IsOnce-push : {X : Type 0} (xs : List X) (x : X) → (IsIn xs x → ⊥) → IsOnce xs → IsOnce (xs ++ x ∷ [])
IsOnce-push xs x absent once i j y e f = elim (slice_get_cases-push xs x i y e) [
  | inl a ↦ elim (slice_get_cases-push xs x j y f) [
    | inl b ↦ once i j y a b
    | inr b ↦ absurd (absent (i, a ∙ ap (λ z. Some z) b.1))
  ]
  | inr a ↦ elim (slice_get_cases-push xs x j y f) [
    | inl b ↦ absurd (absent (j, b ∙ ap (λ z. Some z) a.1))
    | inr b ↦ a.0 ∙ sym b.0
  ]
]

pub in_front : {X : Type 0} (xs ys : List X) (x : X) → IsIn xs x → IsIn (xs ++ ys) x
in_front xs ys x h = (h.0, slice_get-append xs ys h.0 x h.1)

pub in_back : {X : Type 0} (xs ys : List X) (x : X) → IsIn ys x → IsIn (xs ++ ys) x
in_back [] ys p h = h
in_back (x ∷ xs) ys p h = let w = in_back xs ys p h in (suc w.0, w.1)

pub in_either : {X : Type 0} (xs ys : List X) (i : ℕ) (x : X) → slice_get (xs ++ ys) i ≡ Some x → IsIn xs x ⊎ IsIn ys x
in_either [] ys i p e = inr (i, e)
in_either (x ∷ xs) ys zero p e = inl (zero, e)
in_either (x ∷ xs) ys (suc i) p e = elim (in_either xs ys i p e) [
  | inl front ↦ inl (suc front.0, front.1)
  | inr back ↦ inr back
]
