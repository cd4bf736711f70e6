-- A node of two children is found in a store, or made, or the store is full.
use Rattle.std.proofs.Common.{◌≡◌, ℕ, ◌<◌, ◌≤◌, ◌⊎◌, inl, inr, Bool, true, false, List, [], ◌∷◌, Option, Some, None, refl, sym, ap, subst}
use Rattle.std.specs.Prelude.{Ok, Err}
use Rattle.std.proofs.lemmas.Bool.{cases_lt}
use Rattle.std.proofs.lemmas.Bool.Decides.{eqb_tells}
use Rattle.dd_store.specs.declared.StoreFault.TheVariants.{Full}
use Rattle.dd_store.specs.declared.reference.Ref.{Ref}
use Rattle.dd_store.specs.declared.reference.Reference.TheVariants.{False, True, Node}
use Rattle.dd_store.specs.Graph.{Pair, top}
use Rattle.dd_store.specs.Complements.{is_complement, complement_by, complement_both, regular_pair}
use Rattle.dd_store.specs.Nodes.{Nodes, IsAbsent, IsNodeOf, Makes, children, count_of, fresh, with_node}
use Rattle.dd_store.proofs.Complements.{complement_by-node}
use Rattle.dd_store.proofs.Places.{none_some}
use Rattle.dd_store.proofs.Storing.{node-of}
use Rattle.dd_store.proofs.View.{same_ref}
use Rattle.check_report.proofs.Pigeons.{Among}
use Rattle.check_report.proofs.Numbering.{refs_of, has_each}

-- ---- whether a reference is a node of two children

same_pair : (o : Option Pair) (lo hi : Ref) → Dec (o ≡ Some (lo, hi))
same_pair None lo hi = no (λ e. none_some (lo, hi) e)
same_pair (Some p) lo hi = by (same_ref p.0 lo) (same_ref p.1 hi)
  where
    by : Dec (p.0 ≡ lo) → Dec (p.1 ≡ hi) → Dec (Some p ≡ Some (lo, hi))
    by (yes e) (yes f) = yes (λ i. Some (e i, f i))
    by (no n) g = no (λ e. n (let f : p ≡ (lo, hi) = cc in ap (λ (z : Pair). z.0) f))
    by (yes e) (no n) = no (λ e. n (let f : p ≡ (lo, hi) = cc in ap (λ (z : Pair). z.1) f))

same_number : (i j : ℕ) → Dec (i ≡ j)
same_number i j = elim (eqb_tells i j) [ inl t ↦ yes t.1 | inr t ↦ no t.1 ]

is_node : (S : Nodes) (v : ℕ) (lo hi r : Ref) → Dec (IsNodeOf S v lo hi r)
is_node S v lo hi r = by (same_number (top S.levels r) v) (same_pair (children S r) lo hi)
  where
    by : Dec (top S.levels r ≡ v) → Dec (children S r ≡ Some (lo, hi)) → Dec (IsNodeOf S v lo hi r)
    by (yes at) (yes e) = yes (at, e)
    by (yes at) (no n) = no (λ h. n h.1)
    by (no n) d = no (λ h. n h.0)

-- ---- whether the store has one

module _ (S : Nodes) (v : ℕ) (lo hi : Ref) where
  seek : (rs : List Ref) → ((r : Ref) × IsNodeOf S v lo hi r) ⊎ ((r : Ref) → Among r rs → (b : Bool) → IsNodeOf S v lo hi (complement_by b r) → ⊥)
  seek [] = inr (λ r a b h. a)
  seek (q ∷ rs) = by (is_node S v lo hi (complement_by false q)) (is_node S v lo hi (complement_by true q)) (seek rs)
    where
      other : (IsNodeOf S v lo hi (complement_by false q) → ⊥) → (IsNodeOf S v lo hi (complement_by true q) → ⊥) → (b : Bool) → IsNodeOf S v lo hi (complement_by b q) → ⊥
      other n m false h = n h
      other n m true h = m h

      each : ((b : Bool) → IsNodeOf S v lo hi (complement_by b q) → ⊥) → ((r : Ref) → Among r rs → (b : Bool) → IsNodeOf S v lo hi (complement_by b r) → ⊥) →
          (r : Ref) → Among r (q ∷ rs) → (b : Bool) → IsNodeOf S v lo hi (complement_by b r) → ⊥
      each n later r (inl e) b h = n b (subst (λ z. IsNodeOf S v lo hi (complement_by b z)) e h)
      each n later r (inr a) b h = later r a b h

      by : Dec (IsNodeOf S v lo hi (complement_by false q)) → Dec (IsNodeOf S v lo hi (complement_by true q)) → ((r : Ref) × IsNodeOf S v lo hi r) ⊎ ((r : Ref) → Among r rs → (b : Bool) → IsNodeOf S v lo hi (complement_by b r) → ⊥) →
          ((r : Ref) × IsNodeOf S v lo hi r) ⊎ ((r : Ref) → Among r (q ∷ rs) → (b : Bool) → IsNodeOf S v lo hi (complement_by b r) → ⊥)
      by (yes h) d rest = inl (complement_by false q, h)
      by (no n) (yes h) rest = inl (complement_by true q, h)
      by (no n) (no m) (inl found) = inl found
      by (no n) (no m) (inr later) = inr (each (other n m) later)

  find_node : ((r : Ref) × IsNodeOf S v lo hi r) ⊎ IsAbsent S v lo hi
  find_node = by (seek (refs_of S))
    where
      nowhere : ((r : Ref) → Among r (refs_of S) → (b : Bool) → IsNodeOf S v lo hi (complement_by b r) → ⊥) → IsAbsent S v lo hi
      nowhere none False h = none_some (lo, hi) h.1
      nowhere none True h = none_some (lo, hi) h.1
      nowhere none (Node m b) h =
          none (Node m false) (has_each S m (complement_both b (lo, hi)) (node-of S m b (lo, hi) h.1)) b (subst (IsNodeOf S v lo hi) (sym (complement_by-node b m)) h)

      by : ((r : Ref) × IsNodeOf S v lo hi r) ⊎ ((r : Ref) → Among r (refs_of S) → (b : Bool) → IsNodeOf S v lo hi (complement_by b r) → ⊥) → ((r : Ref) × IsNodeOf S v lo hi r) ⊎ IsAbsent S v lo hi
      by (inl found) = inl found
      by (inr none) = inr (nowhere none)

  -- ---- the result of making it

  pub make : ((r : Ref) × (T : Nodes) × Makes S v lo hi (Ok r) T) ⊎ Makes S v lo hi (Err Full) S
  make = by (same_ref lo hi) find_node (cases_lt (count_of S) S.limit)
    where
      by : Dec (lo ≡ hi) → ((r : Ref) × IsNodeOf S v lo hi r) ⊎ IsAbsent S v lo hi → (count_of S < S.limit) ⊎ (S.limit ≤ count_of S) →
          ((r : Ref) × (T : Nodes) × Makes S v lo hi (Ok r) T) ⊎ Makes S v lo hi (Err Full) S
      by (yes e) found room = inl (lo, S, inl (inl (e, refl), refl))
      by (no n) (inl found) room = inl (found.0, S, inl (inr (n, found.1), refl))
      by (no n) (inr absent) (inl room) =
          inl (Node (fresh S v (regular_pair lo hi).0 (regular_pair lo hi).1) (is_complement hi), with_node S v (regular_pair lo hi).0 (regular_pair lo hi).1, inr ((n, absent), room, refl, refl))
      by (no n) (inr absent) (inr full) = inr ((n, absent), full, refl)
