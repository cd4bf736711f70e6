-- The place of a node among the leaves of a window, which are the first of its nodes.
use Rattle.std.proofs.Common.{◌≡◌, ◌==◌, ℕ, zero, suc, ◌+◌, ◌<◌, ◌≤◌, true, cond, List, [], ◌∷◌, take, Option, Some, None, slice_get, refl, sym, ap, ◌∙◌, arith, inl, inr}
use Rattle.std.specs.List.{position_from}
use Rattle.std.proofs.lemmas.Bool.{cases_Bool, eqb-true, eq-eqb}
use Rattle.std.proofs.lemmas.Option.{none-some, same_Some}
use Rattle.slot_table.specs.Lists.{IsIn, IsOnce}
use Rattle.cut_window.specs.Windows.{place_of}

-- what is found is in the list
found_from : (leaves : List ℕ) (n start i : ℕ) → position_from (λ l. l == n) start leaves ≡ Some i
    → (j : ℕ) × (i ≡ start + j) × (slice_get leaves j ≡ Some n)
found_from [] n start i e = absurd (none-some i e)
found_from (l ∷ leaves) n start i e = elim (cases_Bool (l == n)) [
  | inl same ↦ (
      let f : Some start ≡ Some i = sym (ap (λ b. cond b (Some start) (position_from (λ k. k == n) (start + 1) leaves)) same) ∙ e in
      let at : start ≡ i = same_Some start i f in
      (0, omega arith, ap (λ k. Some k) (eqb-true l n same)))
  | inr other ↦ (
      let f = sym (ap (λ b. cond b (Some start) (position_from (λ k. k == n) (start + 1) leaves)) other) ∙ e in
      let more = found_from leaves n (start + 1) i f in
      (suc more.0, omega (arith, more.1), more.2))
]

-- what is not found is not in the list
missed_from : (leaves : List ℕ) (n start j : ℕ) → position_from (λ l. l == n) start leaves ≡ None → slice_get leaves j ≡ Some n → ⊥
missed_from [] n start j e at = none-some n at
missed_from (l ∷ leaves) n start zero e at =
    let same : (l == n) ≡ true = eq-eqb l n (same_Some l n at) in
    none-some start (sym (sym (ap (λ b. cond b (Some start) (position_from (λ k. k == n) (start + 1) leaves)) same) ∙ e))
missed_from (l ∷ leaves) n start (suc j) e at = elim (cases_Bool (l == n)) [
  | inl same ↦ none-some start (sym (sym (ap (λ b. cond b (Some start) (position_from (λ k. k == n) (start + 1) leaves)) same) ∙ e))
  | inr other ↦ (
      let f = sym (ap (λ b. cond b (Some start) (position_from (λ k. k == n) (start + 1) leaves)) other) ∙ e in
      missed_from leaves n (start + 1) j f at)
]

pub place_of-is : (leaves : List ℕ) (n i : ℕ) → place_of leaves n ≡ Some i → slice_get leaves i ≡ Some n
place_of-is leaves n i e =
    let found = found_from leaves n 0 i e in
    let at : i ≡ found.0 = omega (arith, found.1) in
    ap (slice_get leaves) at ∙ found.2

in_front : (nodes : List ℕ) (cut i n : ℕ) → slice_get (take cut nodes) i ≡ Some n → (i < cut) × (slice_get nodes i ≡ Some n)
in_front nodes zero i n e = absurd (none-some n e)
in_front [] (suc cut) i n e = absurd (none-some n e)
in_front (x ∷ nodes) (suc cut) zero n e = (omega arith, e)
in_front (x ∷ nodes) (suc cut) (suc i) n e = let more = in_front nodes cut i n e in (omega (arith, more.0), more.1)

at_front : (nodes : List ℕ) (cut i n : ℕ) → i < cut → slice_get nodes i ≡ Some n → slice_get (take cut nodes) i ≡ Some n
at_front nodes zero i n low e = absurd (omega arith)
at_front [] (suc cut) i n low e = absurd (none-some n e)
at_front (x ∷ nodes) (suc cut) zero n low e = e
at_front (x ∷ nodes) (suc cut) (suc i) n low e = at_front nodes cut i n (omega arith) e

-- a leaf has its place among the nodes
pub place_of-leaf : (nodes : List ℕ) (cut i n : ℕ) → IsOnce nodes → i < cut → slice_get nodes i ≡ Some n → place_of (take cut nodes) n ≡ Some i
place_of-leaf nodes cut i n once low at = by_place (place_of (take cut nodes) n) refl
  where
    by_place : (o : Option ℕ) → place_of (take cut nodes) n ≡ o → place_of (take cut nodes) n ≡ Some i
    by_place None e = absurd (missed_from (take cut nodes) n 0 i e (at_front nodes cut i n low at))
    by_place (Some j) e =
        let front = in_front nodes cut j n (place_of-is (take cut nodes) n j e) in
        e ∙ ap (λ (k : ℕ). Some k) (once j i n front.1 at)

-- a node above the leaves has none
pub place_of-above : (nodes : List ℕ) (cut i n : ℕ) → IsOnce nodes → cut ≤ i → slice_get nodes i ≡ Some n → place_of (take cut nodes) n ≡ None
place_of-above nodes cut i n once high at = by_place (place_of (take cut nodes) n) refl
  where
    by_place : (o : Option ℕ) → place_of (take cut nodes) n ≡ o → place_of (take cut nodes) n ≡ None
    by_place None e = e
    by_place (Some j) e =
        let front = in_front nodes cut j n (place_of-is (take cut nodes) n j e) in
        let same : j ≡ i = once j i n front.1 at in
        absurd (omega (arith, front.0))

-- a node that is not in the window has no place
pub place_of-absent : (nodes : List ℕ) (cut n : ℕ) → (IsIn nodes n → ⊥) → place_of (take cut nodes) n ≡ None
place_of-absent nodes cut n absent = by_place (place_of (take cut nodes) n) refl
  where
    by_place : (o : Option ℕ) → place_of (take cut nodes) n ≡ o → place_of (take cut nodes) n ≡ None
    by_place None e = e
    by_place (Some j) e =
        let front = in_front nodes cut j n (place_of-is (take cut nodes) n j e) in
        absurd (absent (j, front.1))
