-- The pigeonhole principle: a list whose elements have distinct partners in another list is no longer than that.
use Rattle.std.proofs.Common.{◌≡◌, ℕ, zero, suc, ◌+◌, ◌<◌, ◌≤◌, List, [], ◌∷◌, length, slice_get, Some, refl, sym, ◌∙◌, ap, subst, arith}
use Rattle.std.proofs.lemmas.Option.{slice_get_within}
use Rattle.slot_table.proofs.Places.{none_some}

-- a list without the element at a place
without : {X : Type 0} → ℕ → List X → List X
without i [] = []
without zero (x ∷ xs) = xs
without (suc i) (x ∷ xs) = x ∷ without i xs

length-without : {X : Type 0} (i : ℕ) (xs : List X) → i < length xs → length xs ≡ length (without i xs) + 1
unfolding without
length-without i [] lt = absurd (omega arith)
length-without zero (x ∷ xs) lt = omega arith
length-without (suc i) (x ∷ xs) lt = let e = length-without i xs (omega arith) in omega arith

-- an element at another place is still in the list
still_there : {X : Type 0} (i j : ℕ) (xs : List X) (x : X) → slice_get xs j ≡ Some x → (i ≡ j → ⊥) → (k : ℕ) × (slice_get (without i xs) k ≡ Some x)
unfolding without
still_there i j [] x e ne = absurd (none_some x e)
still_there zero zero (y ∷ ys) x e ne = absurd (ne refl)
still_there zero (suc j) (y ∷ ys) x e ne = (j, e)
still_there (suc i) zero (y ∷ ys) x e ne = (zero, e)
still_there (suc i) (suc j) (y ∷ ys) x e ne =
    let w = still_there i j ys x e (λ s. ne (ap (λ n. suc n) s)) in (suc w.0, w.1)

-- if xs has distinct elements, and each has a partner in ys that is no other's, then xs is no longer than ys
pub pigeons : {X Y : Type 0} (R : X → Y → Type 0) (xs : List X) (ys : List Y)
    → ((i j : ℕ) (x : X) → slice_get xs i ≡ Some x → slice_get xs j ≡ Some x → i ≡ j)
    → ((i : ℕ) (x : X) → slice_get xs i ≡ Some x → (y : Y) × R x y × ((j : ℕ) × (slice_get ys j ≡ Some y)))
    → ((x z : X) (y : Y) → R x y → R z y → x ≡ z)
    → length xs ≤ length ys
pigeons R [] ys once partner own = omega arith
pigeons {X} {Y} R (x ∷ xs) ys once partner own =
    let w = partner zero x refl in
    let j : ℕ = w.2.0 in
    let at : slice_get ys j ≡ Some w.0 = w.2.1 in
    let lt : j < length ys = slice_get_within ys j w.0 at in
    let len : length ys ≡ length (without j ys) + 1 = length-without j ys lt in
    let rest : length xs ≤ length (without j ys) = pigeons R xs (without j ys)
    (λ a b z e f. cancel (once (suc a) (suc b) z e f))
    (λ a z e.
    let v = partner (suc a) z e in
    let apart : j ≡ v.2.0 → ⊥ = λ s.
    let same : Some w.0 ≡ Some v.0 = sym at ∙ ap (λ k. slice_get ys k) s ∙ v.2.1 in
    let y : w.0 ≡ v.0 = cc in
    let one : x ≡ z = own x z v.0 (subst (λ u. R x u) y w.1) v.1 in
    let bad : suc a ≡ zero = once (suc a) zero z e (ap (λ u. Some u) one) in
    absurd (omega arith) in
    (v.0, v.1, still_there j v.2.0 ys v.0 v.2.1 apart))
    own in
    omega arith
  where
    cancel : {a b : ℕ} → suc a ≡ suc b → a ≡ b
    cancel e = omega arith
