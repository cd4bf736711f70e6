-- The answers of a wave by place: those of the roots are those of the entries.
use Rattle.std.proofs.Common.{◌≡◌, ℕ, suc, ◌<◌, ◌≤◌, inl, inr, Bool, List, [], ◌∷◌, length, refl, sym, ◌∙◌, ap, subst, arith, Contains, All}
use Rattle.std.specs.List.{AllZip}
use Rattle.std.proofs.lemmas.Option.{slice_get_within}
use Rattle.dd_store.specs.declared.reference.Ref.{Ref}
use Rattle.dd_store.specs.Nodes.{Nodes, node as node_at, IsSound, IsDiagram, den, count_of}
use Rattle.dd_store.specs.View.{Has, Keeps}
use Rattle.dd_store.specs.Complements.{complement_by, complemented}
use Rattle.dd_store.proofs.Complements.{IsRef-complement_by, den-complement_by}
use Rattle.req_table.specs.declared.Key.{Key}
use Rattle.req_table.specs.declared.Child.{Child}
use Rattle.req_table.specs.Keys.{IsKey, IsChildIn, normal_of, child as child_at, child_value, answer_of, ask_of, meaning}
use Rattle.req_table.proofs.Waved.{child_has_value, child_in_store}
use Rattle.reduce_up.specs.Reducing.{IsAnswer}
use Rattle.reduce_up.specs.Waves.{Entry, entry_value, IsEntry, AnswersEach, HasRequest, IsWithinLimit}
use Rattle.reduce_up.proofs.Noting.{nothing, in_cases}
use Rattle.reduce_up.proofs.Reduction.{kept_meaning, diagram_kept}
use Rattle.reduce_up.proofs.Rooted.{all_of}
use Rattle.req_table.specs.declared.packed_child.PackedChild.{PackedChild}
use Rattle.req_table.specs.declared.packed_child.PlacedChild.TheVariants.{Done, Ask}
use Rattle.req_table.specs.Places.{row, IsAtPlace, IsPlaced}
use Rattle.reduce_up.specs.ByPlace.{AreAdmitted}
use Rattle.reduce_up.specs.ReductionPhase.{ResolvesTo, IsWithinBelow}
use Rattle.req_table.proofs.AtPlace.{at_place_some}

-- the root of an entry
pub root_for : (S : Nodes) (T : List (List Key)) (es : List Entry) (ps : List PackedChild) → AllZip (λ e p. IsPlaced T p (child_at S e.0 e.1 e.2)) es ps → (e : Entry) → Contains es e → (p : PackedChild) × IsPlaced T p (child_at S e.0 e.1 e.2)
root_for S T [] ps z e m = absurd (nothing {X = Entry} e m)
root_for S T (d ∷ es) [] z e m = absurd z
root_for S T (d ∷ es) (p ∷ ps) z e m = elim (in_cases {X = Entry} d e es m) [ inl x ↦ (p, subst (λ (y : Entry). IsPlaced T p (child_at S y.0 y.1 y.2)) x z.0) | inr i ↦ root_for S T es ps z.1 e i ]

-- A wave over the store S.
module _ (S : Nodes) (w : IsSound S) (entries : List Entry) (good : All (IsEntry S) entries) where
  -- the diagram of a root is that of its entry
  root_diagram : (T : List (List Key)) (A : List (List Ref)) (s : Nodes) → AreAdmitted S entries T → Keeps S s → ((v q : ℕ) (k : Key) (r : Ref) → IsAtPlace T v q k → IsAtPlace A v q r → IsAnswer s k r) →
      (e : Entry) → IsEntry S e → (p : PackedChild) → IsPlaced T p (child_at S e.0 e.1 e.2) → (r : Ref) → ResolvesTo A p r → IsDiagram s r (entry_value S e)
  root_diagram T A s adm K answered e i (Done d) h r c =
      let has : Has S d = subst (IsChildIn S) h (child_in_store S e.0 e.1 e.2 i.0 i.1) in
      let means : (x : List Bool) → den S d x ≡ entry_value S e x = λ x. ap (λ z. child_value S z x) (sym h) ∙ child_has_value S e.0 e.1 e.2 x in
      subst (λ z. IsDiagram s z (entry_value S e)) (sym c) (diagram_kept S s w K (entry_value S e) d (has, λ x hx. means x))
  root_diagram T A s adm K answered e i (Ask l p m) h r c =
      let k : Key = h.0 in
      let d : Ref = c.0 in
      let a : IsAnswer s k d = answered l p k d h.1 c.1 in
      let kk : IsKey S k = (adm.keys l p k h.1).key in
      let means : (x : List Bool) → complemented m (meaning S k x) ≡ entry_value S e x = λ x. ap (λ z. child_value S z x) (sym h.2) ∙ child_has_value S e.0 e.1 e.2 x in
      subst (λ z. IsDiagram s z (entry_value S e)) (sym c.2)
      (IsRef-complement_by (node_at s) m d a.has, λ x hx. den-complement_by s m d x ∙ ap (complemented m) (a.denotes x hx ∙ kept_meaning S s w K k kk.first kk.second x) ∙ means x)

  pub roots_answered : (T : List (List Key)) (A : List (List Ref)) (s : Nodes) → AreAdmitted S entries T → Keeps S s → ((v q : ℕ) (k : Key) (r : Ref) → IsAtPlace T v q k → IsAtPlace A v q r → IsAnswer s k r) →
      (es : List Entry) → All (IsEntry S) es → (ps : List PackedChild) → AllZip (λ e p. IsPlaced T p (child_at S e.0 e.1 e.2)) es ps → (rs : List Ref) → AllZip (ResolvesTo A) ps rs → AnswersEach S es s rs
  roots_answered T A s adm K answered [] g [] z [] y = tt
  roots_answered T A s adm K answered [] g [] z (r ∷ rs) y = y
  roots_answered T A s adm K answered [] g (p ∷ ps) z rs y = absurd z
  roots_answered T A s adm K answered (e ∷ es) g [] z rs y = absurd z
  roots_answered T A s adm K answered (e ∷ es) g (p ∷ ps) z [] y = y
  roots_answered T A s adm K answered (e ∷ es) g (p ∷ ps) z (r ∷ rs) y =
      (root_diagram T A s adm K answered e (g 0 e (omega arith)) p z.0 r y.0, roots_answered T A s adm K answered es (λ k b lt. g (suc k) b (omega arith)) ps z.1 rs y.1)

  -- the request of each root has its answer
  root_comes : (T : List (List Key)) (A : List (List Ref)) → ((v q : ℕ) (k : Key) → IsAtPlace T v q k → length (row A v) ≡ length (row T v)) → (p : PackedChild) (c : Child) → IsPlaced T p c → (r : Ref) × ResolvesTo A p r
  root_comes T A counts (Done d) c h = (d, refl)
  root_comes T A counts (Ask l q m) c h =
      let a = at_place_some (row A l) q (let e : length (row A l) ≡ length (row T l) = counts l q h.0 h.1 in let lt : q < length (row T l) = slice_get_within (row T l) q h.0 h.1 in omega (arith, e, lt)) in
      (complement_by m a.0, (a.0, a.1, refl))

  placed_root : (T : List (List Key)) (es : List Entry) (ps : List PackedChild) → AllZip (λ e p. IsPlaced T p (child_at S e.0 e.1 e.2)) es ps → (p : PackedChild) → Contains ps p → (c : Child) × IsPlaced T p c
  placed_root T [] [] z p m = absurd (nothing p m)
  placed_root T [] (q ∷ ps) z p m = absurd z
  placed_root T (e ∷ es) [] z p m = absurd z
  placed_root T (e ∷ es) (q ∷ ps) z p m = elim (in_cases q p ps m) [ inl d ↦ (child_at S e.0 e.1 e.2, subst (λ x. IsPlaced T x (child_at S e.0 e.1 e.2)) d z.0) | inr i ↦ placed_root T es ps z.1 p i ]

  pub roots_come : (T : List (List Key)) (A : List (List Ref)) → ((v q : ℕ) (k : Key) → IsAtPlace T v q k → length (row A v) ≡ length (row T v)) → (ps : List PackedChild) → AllZip (λ e p. IsPlaced T p (child_at S e.0 e.1 e.2)) entries ps → All (λ p. (r : Ref) × ResolvesTo A p r) ps
  roots_come T A counts ps z = all_of (λ p. (r : Ref) × ResolvesTo A p r) ps (λ p m. let c = placed_root T entries ps z p m in root_comes T A counts p c.0 c.1)

  no_request : (T : List (List Key)) (ps : List PackedChild) → AllZip (λ e p. IsPlaced T p (child_at S e.0 e.1 e.2)) entries ps → ((v q : ℕ) (k : Key) → IsAtPlace T v q k → ⊥) → HasRequest entries → ⊥
  no_request T ps z none h = let p = root_for S T entries ps z h.0 h.1 in by p.0 (subst (λ t. IsPlaced T p.0 (answer_of S h.0.0 h.0.1 h.0.2 t)) h.2 p.1)
    where
      by : (p : PackedChild) → IsPlaced T p (ask_of S (normal_of h.0.0 h.0.1 h.0.2)) → ⊥
      by (Done d) e = cc
      by (Ask l q m) e = none l q e.0 e.1

  -- the store is within its limit, or nothing was asked for
  pub within_both : (T : List (List Key)) (ps : List PackedChild) → AllZip (λ e p. IsPlaced T p (child_at S e.0 e.1 e.2)) entries ps → (from : ℕ) (U s : Nodes) → IsWithinBelow S T from U → IsWithinBelow U T 0 s → IsWithinLimit S entries s
  within_both T ps z from U s a (inl le) = inl le
  within_both T ps z from U s (inl le) (inr n) = inl (subst (λ x. count_of x ≤ x.limit) (sym n.1) le)
  within_both T ps z from U s (inr m) (inr n) = inr (no_request T ps z (λ v q k h. n.0 v q k (omega arith) h), n.1 ∙ m.1)
