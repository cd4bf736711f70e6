-- The derived `==` of keys is equality, and what follows for a set of keys.
use Rattle.std.proofs.Common.{if◌then◌else◌, ◌≡◌, ◌∙◌, ℕ, ◌<◌, ◌+◌, suc, Bool, true, false, not, List, [], ◌∷◌, ◌++◌, length, take, get_or, Option, None, Some, slice_get, position, Contains, true≢false, refl, sym, ap, subst, inl, inr, arith}
use Rattle.std.specs.List.{list_any, IsDistinct}
use Rattle.std.specs.Option.{MatchOption, is_some}
use Rattle.std.specs.Cmp.{IsEquivalence}
use Rattle.std.specs.Bool.{Decides}
use Rattle.std.proofs.lemmas.Bool.{cases_lt}
use Rattle.std.proofs.lemmas.List.{length-take-le, get_or-take}
use Rattle.std.proofs.lemmas.List.Quantifiers.{position-Some}
use Rattle.std.proofs.lemmas.Map.Made.{AllPairs-from_IsDistinct}
use Rattle.std.proofs.lemmas.Map.Views.{Contains-from_any, list_any-from_Contains}
use Rattle.std.proofs.Math.Seq.{take-suc}
use Rattle.std.proofs.lemmas.Option.{slice_get-get_or, slice_get_within, get_or_from_slice_get}
use Rattle.indexmap.specs.IndexSet.{insert_key}
use Rattle.slot_table.specs.Lists.{IsOnce}
use Rattle.req_table.specs.declared.Key.{Key}
use Rattle.req_table.specs.Equal.{key_same}
use Rattle.req_table.specs.Tables.{AdmitsKey}
use Rattle.req_table.specs.contracts.OperationPartialEq.TheImpl.{eq-value}
use Rattle.req_table.specs.contracts.OperationEq.TheImpl.Laws.{laws-law}

-- the laws of that `==`, for look-ups by key
pub key_laws : IsEquivalence eq-value.it
key_laws = laws-law

pub key_decides : (x y : Key) → Decides (eq-value.it x y) (x ≡ y)
key_decides x y = (key_same x y, λ e. ap (eq-value.it x) (sym e) ∙ key_laws.refl x)

-- a set of keys that has no equal key has not the key
pub absent_from : (keys : List Key) (k : Key) → list_any (eq-value.it k) keys ≡ false → ¬ Contains keys k
absent_from keys k e m = true≢false (sym (list_any-from_Contains key_laws k keys m) ∙ e)

-- an insertion offers a key to the table
pub offered : (old new : List Key) (k : Key) (fresh : Bool) → fresh ≡ not (list_any (eq-value.it k) old) → new ≡ insert_key eq-value.it old k → AdmitsKey old k fresh new
offered old new k fresh e f =
    elim (list_any (eq-value.it k) old) as (λ t. list_any (eq-value.it k) old ≡ t → fresh ≡ not t → new ≡ (if t then old else old ++ k ∷ []) → AdmitsKey old k fresh new) [
      | true ↦ (λ t e' f'. subst (λ b. AdmitsKey old k b new) (sym e') (Contains-from_any {eq = eq-value.it} key_same k old t, f'))
      | false ↦ (λ t e' f'. subst (λ b. AdmitsKey old k b new) (sym e') (absent_from old k t, f'))
    ] refl e f

-- an equal key at a place is the key
pub stored : (keys : List Key) (k x : Key) (p : ℕ) → slice_get keys p ≡ Some x → eq-value.it k x ≡ true → slice_get keys p ≡ Some k
stored keys k x p at same = at ∙ ap (λ z. Some z) (sym (key_same k x same))

-- what a search for a key finds
pub found : (keys : List Key) (k : Key) (r : Option ℕ) → r ≡ position (eq-value.it k) keys → is_some r ≡ list_any (eq-value.it k) keys → MatchOption r (¬ Contains keys k) (λ p. slice_get keys p ≡ Some k)
found keys k None e f = absent_from keys k (sym f)
found keys k (Some p) e f = let at = position-Some (eq-value.it k) keys p k (sym e) in stored keys k (get_or keys p k) p (slice_get-get_or keys p k at.0) at.1

-- a set of keys has each once
pub once : (keys : List Key) → IsDistinct eq-value.it keys → IsOnce keys
once keys distinct i j x a b = elim (cases_lt i j) [ inl lt ↦ absurd (apart i j a b lt) | inr ge ↦ elim (cases_lt j i) [ inl lt ↦ absurd (apart j i b a lt) | inr le ↦ omega arith ] ]
  where
    apart : (u v : ℕ) → slice_get keys u ≡ Some x → slice_get keys v ≡ Some x → u < v → ⊥
    apart u v p q lt =
        AllPairs-from_IsDistinct key_decides keys distinct u v x lt (slice_get_within keys v x q)
        (get_or_from_slice_get keys u x x p ∙ sym (get_or_from_slice_get keys v x x q))

-- a key after i others is the last of the first i + 1
module _ (keys : List Key) (i : ℕ) (k : Key) (distinct : IsOnce keys) (lt : i < length keys) (is : k ≡ get_or keys i k) where
  absent_before : Contains (take i keys) k → ⊥
  absent_before h =
      let below : h.0 < i = (let some = h.1 in let len = length-take-le i keys (omega arith) in omega arith) in
      let there : get_or keys h.0 k ≡ k = sym (get_or-take i keys h.0 k below) ∙ h.2 in
      let first : slice_get keys h.0 ≡ Some k = slice_get-get_or keys h.0 k (omega arith) ∙ ap (λ z. Some z) there in
      let again : slice_get keys i ≡ Some k = slice_get-get_or keys i k lt ∙ ap (λ z. Some z) (sym is) in
      let twice : h.0 ≡ i = distinct h.0 i k first again in
      absurd (omega arith)

  pub goes_last : (old new : List Key) → old ≡ take i keys → new ≡ insert_key eq-value.it old k → new ≡ take (i + 1) keys
  goes_last old new same e =
      let last : List Key → Bool → Type 0 = λ new t. new ≡ (if t then old else old ++ k ∷ []) → new ≡ take (i + 1) keys in
      elim (list_any (eq-value.it k) old) as (λ t. list_any (eq-value.it k) old ≡ t → last new t) [
        | true ↦ (λ t f.
            let there = Contains-from_any {eq = eq-value.it} key_same k old t in
            absurd (absent_before (subst (λ (z : List Key). Contains z k) same there)))
        | false ↦ (λ t f.
            f
            ∙ ap (λ z. z ++ k ∷ []) same
            ∙ ap (λ z. take i keys ++ z ∷ []) is
            ∙ sym (take-suc keys i k lt)
            ∙ ap (λ z. take z keys) {x = suc i} {y = i + 1} (omega arith))
      ] refl e
