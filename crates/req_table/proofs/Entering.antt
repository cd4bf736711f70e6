-- A request that is added to the table of its level, or found there.
use Rattle.std.proofs.Common.{◌≡◌, ℕ, ◌<◌, ◌⊎◌, inl, inr, true, false, Bool, List, [], ◌∷◌, length, get_or, set, Some, slice_get, refl, sym, ◌∙◌, ap, subst}
use Rattle.std.proofs.lemmas.List.{length-set, set-get_or}
use Rattle.dd_store.proofs.Places.{slice_get-append, slice_get_cases-push}
use Rattle.req_table.specs.declared.Key.{Key}
use Rattle.req_table.specs.declared.Child.{Child}
use Rattle.req_table.specs.declared.Child.TheVariants as child
use Rattle.req_table.specs.Places.{row, IsAtPlace, Enters, AdmitsChild}
use Rattle.req_table.specs.Tables.{AdmitsKey}
use Rattle.req_table.proofs.AtPlace.{same_level, row_own, row_other, row_read}

-- a key that was offered to a table is at its place
pub offered_enters : (old new : List Key) (k : Key) (p : ℕ) (fresh : Bool) → AdmitsKey old k fresh new → slice_get new p ≡ Some k → Enters old k p new
offered_enters old new k p true o at = (at, inr o.1)
offered_enters old new k p false o at = (at, inl o.1)

-- a key that was offered to the table of a level is at its place
pub level_entered : (T : List (List Key)) (l : ℕ) (held new : List Key) (k : Key) (p : ℕ) (fresh : Bool) → l < length T → held ≡ get_or T l held
    → AdmitsKey held k fresh new → slice_get new p ≡ Some k → Enters (row T l) k p new
level_entered T l held new k p fresh lt is o at = subst (λ (z : List Key). Enters z k p new) (row_read T l held lt is) (offered_enters held new k p fresh o at)

-- a table that refused a key leaves its level as it was
pub level_same : (T : List (List Key)) (l : ℕ) (held new : List Key) → l < length T → held ≡ get_or T l held → new ≡ held → set T l new ≡ T
level_same T l held new lt is refused = ap (set T l) (refused ∙ row_read T l held lt is) ∙ set-get_or T l []

-- what was at a place is still there
entered_kept : (old new : List Key) (k : Key) (p : ℕ) → Enters old k p new → (q : ℕ) (x : Key) → slice_get old q ≡ Some x → slice_get new q ≡ Some x
entered_kept old new k p e q x h =
    elim e.1 [
      | inl same ↦ subst (λ (z : List Key). slice_get z q ≡ Some x) (sym same) h
      | inr more ↦ subst (λ (z : List Key). slice_get z q ≡ Some x) (sym more) (slice_get-append old (k ∷ []) q x h)
    ]

entered_only : (old new : List Key) (k : Key) (p : ℕ) → Enters old k p new → (q : ℕ) (x : Key) → slice_get new q ≡ Some x → (slice_get old q ≡ Some x) ⊎ (x ≡ k)
entered_only old new k p e q x h =
    elim e.1 [
      | inl same ↦ inl (subst (λ (z : List Key). slice_get z q ≡ Some x) same h)
      | inr more ↦ elim (slice_get_cases-push old k q x (subst (λ (z : List Key). slice_get z q ≡ Some x) more h)) [ inl o ↦ inl o | inr n ↦ inr n.1 ]
    ]

-- the child of a placed request was admitted
pub ask_admits : (T : List (List Key)) (l : ℕ) (k : Key) (p : ℕ) (new : List Key) → l < length T → Enters (row T l) k p new → (m : Bool) → AdmitsChild T (child.Ask l k m) (set T l new)
ask_admits T l k p new lt e m = record {
  levels = length-set T l new;
  kept = λ w q x h.
      elim (same_level w l) [
        | inl d ↦ subst (λ z. IsAtPlace (set T l new) z q x) (sym d)
            (subst (λ (z : List Key). slice_get z q ≡ Some x) (sym (row_own T l new lt)) (entered_kept (row T l) new k p e q x (subst (λ z. IsAtPlace T z q x) d h)))
        | inr d ↦ subst (λ (z : List Key). slice_get z q ≡ Some x) (sym (row_other T l new w d)) h
      ];
  only = λ w q x h.
      elim (same_level w l) [
        | inl d ↦
            let at : slice_get new q ≡ Some x = subst (λ (z : List Key). slice_get z q ≡ Some x) (row_own T l new lt) (subst (λ z. IsAtPlace (set T l new) z q x) d h) in
            elim (entered_only (row T l) new k p e q x at) [
              | inl o ↦ inl (subst (λ z. IsAtPlace T z q x) (sym d) o)
              | inr n ↦ inr (m, ap (λ z. child.Ask z k m) (sym d) ∙ ap (λ z. child.Ask w z m) (sym n))
            ]
        | inr d ↦ inl (subst (λ (z : List Key). slice_get z q ≡ Some x) (row_other T l new w d) h)
      ];
  others = λ w no. row_other T l new w (λ d. no k (m, ap (λ z. child.Ask z k m) (sym d)));
}

-- the request of an admitted child is at its place
pub ask_placed : (T : List (List Key)) (l : ℕ) (k : Key) (p : ℕ) (new : List Key) → l < length T → Enters (row T l) k p new → IsAtPlace (set T l new) l p k
ask_placed T l k p new lt e = subst (λ (z : List Key). slice_get z p ≡ Some k) (sym (row_own T l new lt)) e.0

-- nothing was admitted
pub none_admits : (T : List (List Key)) (c : Child) → AdmitsChild T c T
none_admits T c = record { levels = refl; kept = λ w q x h. h; only = λ w q x h. inl h; others = λ w no. refl }
