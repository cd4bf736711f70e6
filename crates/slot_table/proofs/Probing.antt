-- What follows from the end of a search, and that slots still find all items if one is added.
use Rattle.std.proofs.Common.{◌≡◌, ℕ, suc, ◌+◌, ◌<◌, ◌≤◌, List, [], ◌∷◌, ◌++◌, length, slice_get, set, replicate, Some, sym, ◌∙◌, ap, subst, arith, inl, inr}
use Rattle.std.proofs.lemmas.Bool.{cases_lt, cases_eq}
use Rattle.std.proofs.lemmas.List.{length-set, length_push, length-replicate}
use Rattle.std.proofs.lemmas.Option.{slice_get_within}
use Rattle.slot_table.specs.Probes.{home_of, slot_of, Holds, IsTaken, IsFree, Probes, HasFree}
use Rattle.slot_table.proofs.Pigeons.{pigeons}
use Rattle.slot_table.proofs.Places.{none_some, slice_get_cases-push}
use Rattle.slot_table.proofs.Walking.{slice_get-set_same, kept, held_cases, count_up, length-count_up, in_count_up, slice_get-replicate}

module _ {X : Type 0} (slot_hash : X → ℕ) where
  -- the slots before a distance hold other items
  abbrev pub Passed : ℕ → List X → List ℕ → X → ℕ → Type 0
  Passed n ps ts p d =
      (e : ℕ) → e < d → (i : ℕ) × Holds ts (slot_of n (home_of slot_hash n p) e) i × (slice_get ps i ≡ Some p → ⊥)

  pub Passed-more : (n : ℕ) (ps : List X) (ts : List ℕ) (p : X) (d i : ℕ) → Passed n ps ts p d
      → Holds ts (slot_of n (home_of slot_hash n p) d) i → (slice_get ps i ≡ Some p → ⊥) → Passed n ps ts p (d + 1)
  Passed-more n ps ts p d i passed content other e lt = elim (cases_eq e d) [
    | inl last ↦ (i, ap (λ z. slice_get ts (slot_of n (home_of slot_hash n p) z)) last ∙ content, other)
    | inr before ↦ passed e (omega arith)
  ]

  pub Passed-taken : (n : ℕ) (ps : List X) (ts : List ℕ) (p : X) (d : ℕ) → Passed n ps ts p d → IsTaken n (home_of slot_hash n p) ts d
  Passed-taken n ps ts p d passed e lt = let q = passed e lt in (q.0, q.1)

  pub absent_at_empty : (n : ℕ) (ps : List X) (ts : List ℕ) (p : X) (d : ℕ)
      → Probes slot_hash n ps ts → Passed n ps ts p d → slice_get ts (slot_of n (home_of slot_hash n p) d) ≡ Some 0
      → (i : ℕ) → slice_get ps i ≡ Some p → ⊥
  absent_at_empty n ps ts p d w passed empty i e =
      let r = w.reach i p e in
      elim (cases_lt r.0 d) [
        | inl before ↦
            let q = passed r.0 before in
            let same : Some (suc i) ≡ Some (suc q.0) = sym r.2 ∙ q.1 in
            let one : i ≡ q.0 = cc in
            q.2 (subst (λ (z : ℕ). slice_get ps z ≡ Some p) one e)
        | inr from ↦ elim (cases_eq r.0 d) [
          | inl here ↦ let clash : Some (suc i) ≡ Some 0 = sym r.2 ∙ ap (λ z. slice_get ts (slot_of n (home_of slot_hash n p) z)) here ∙ empty in cc
          | inr past ↦ let q = r.3 d (omega arith) in let clash : Some (suc q.0) ≡ Some 0 = sym q.1 ∙ empty in cc
        ]
      ]

  -- adding an item whose slot is the first empty one from its home
  pub Probes-push : (n : ℕ) (ps : List X) (ts : List ℕ) (p : X) (j : ℕ) → Probes slot_hash n ps ts
      → IsFree n (home_of slot_hash n p) ts j → Probes slot_hash n (ps ++ p ∷ []) (set ts j (suc (length ps)))
  Probes-push n ps ts p j w free =
      let v : ℕ = length ps in
      let empty : slice_get ts j ≡ Some 0 = free.3 in
      let len : length (ps ++ p ∷ []) ≡ length ps + 1 = length_push ps p in
      record {
        size = length-set ts j (suc v) ∙ w.size;
        valid = λ k i h. elim (held_cases ts j k i v empty h) [
          | inl old ↦ let b = w.valid k i old in omega arith
          | inr new ↦ let b : v ≡ i = new.1 in omega arith
        ];
        once = λ k l i h g. elim (held_cases ts j k i v empty h) [
          | inl a ↦ elim (held_cases ts j l i v empty g) [
            | inl b ↦ w.once k l i a b
            | inr b ↦ let c = w.valid k i a in let q : v ≡ i = b.1 in absurd (omega arith)
          ]
          | inr a ↦ elim (held_cases ts j l i v empty g) [
            | inl b ↦ let c = w.valid l i b in let q : v ≡ i = a.1 in absurd (omega arith)
            | inr b ↦ sym a.0 ∙ b.0
          ]
        ];
        reach = λ i q e. elim (slice_get_cases-push ps p i q e) [
          | inl old ↦ let r = w.reach i q old in (
            r.0,
            r.1,
            kept ts j (slot_of n (home_of slot_hash n q) r.0) i v empty r.2,
            λ a b. let f = r.3 a b in (f.0, kept ts j (slot_of n (home_of slot_hash n q) a) f.0 v empty f.1),
          )
          | inr new ↦
              let at : Holds (set ts j (suc v)) j i = slice_get-set_same ts j (suc v) 0 empty ∙ ap (λ z. Some (suc z)) (sym new.0) in
              subst (λ (z : X). (a : ℕ) × (a < n) × Holds (set ts j (suc v)) (slot_of n (home_of slot_hash n z) a) i
              × IsTaken n (home_of slot_hash n z) (set ts j (suc v)) a) (sym new.1) (
                free.0,
                free.1,
                subst (λ (z : ℕ). Holds (set ts j (suc v)) z i) free.2 at,
                λ a b. let f = free.4 a b in (f.0, kept ts j (slot_of n (home_of slot_hash n p) a) f.0 v empty f.1),
              )
        ];
      }

  -- if there are more slots than items, a slot is empty
  pub not_all_taken : (n : ℕ) (ps : List X) (ts : List ℕ) → Probes slot_hash n ps ts → length ps < n → HasFree n ts
  not_all_taken n ps ts w lt full =
      let size : length ts ≡ n = w.size in
      let ys : List ℕ = count_up 0 (length ps) in
      let few : length ts ≤ length ys = pigeons (λ (x y : ℕ). x ≡ suc y) ts ys
      (λ i j x e f.
      let q = full i (let b = slice_get_within ts i x e in omega arith) in
      let same : Some x ≡ Some (suc q.0) = sym e ∙ q.1 in
      let g : x ≡ suc q.0 = cc in
      w.once i j q.0 (e ∙ ap (λ z. Some z) g) (f ∙ ap (λ z. Some z) g))
      (λ i x e.
      let q = full i (let b = slice_get_within ts i x e in omega arith) in
      let same : Some x ≡ Some (suc q.0) = sym e ∙ q.1 in
      let g : x ≡ suc q.0 = cc in
      (q.0, g, (q.0, in_count_up 0 (length ps) q.0 (w.valid i q.0 q.1) ∙ ap (λ z. Some z) (omega arith))))
      (λ x z y a b. a ∙ sym b) in
      let l : length ys ≡ length ps = length-count_up 0 (length ps) in
      omega arith

  -- empty slots find the items of an empty list
  pub Probes-empty : (n : ℕ) → Probes slot_hash n [] (replicate n 0)
  Probes-empty n = record {
    size = length-replicate n 0;
    valid = λ j i h. absurd (slice_get-replicate n j i h);
    once = λ j k i h g. absurd (slice_get-replicate n j i h);
    reach = λ i p e. absurd (none_some p e);
  }
