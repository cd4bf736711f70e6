-- A level by place, of whose pairs the nodes are made.
use Rattle.std.proofs.Common.{◌≡◌, ◌≢◌, ℕ, ◌<◌, ◌⊎◌, inl, inr, true, false, Bool, List, [], ◌∷◌, ◌+◌, ◌*◌, ◌≤◌, zero, suc, length, get_or, slice_get, Some, All, refl, sym, ◌∙◌, subst, arith}
use Rattle.std.specs.Prelude.{Err}
use Rattle.std.specs.List.{AllZip}
use Rattle.std.specs.declared.vec.Vec.{Vec}
use Rattle.std.specs.declared.alloc.Global.{Global}
use Rattle.std.proofs.Math.Nat.{eq-or-lt_of_le}
use Rattle.std.proofs.lemmas.List.{get_or_default}
use Rattle.std.proofs.lemmas.Option.{slice_get_within, slice_get-get_or}
use Rattle.dd_store.specs.declared.reference.Ref.{Ref}
use Rattle.dd_store.specs.declared.StoreFault.{StoreFault}
use Rattle.dd_store.specs.declared.StoreFault.TheVariants.{Full, OutOfMemory}
use Rattle.dd_store.specs.Graph.{Pair}
use Rattle.dd_store.specs.Functions.{Agree, OfEither}
use Rattle.dd_store.specs.Growing.{IsIn}
use Rattle.dd_store.specs.Levels.{all_at, regular_lists}
use Rattle.dd_store.specs.Parts.Part.{node}
use Rattle.dd_store.specs.Nodes.{Nodes, IsSound, den, shard_at, count_of}
use Rattle.dd_store.specs.View.{part, Has, Keeps}
use Rattle.dd_store.specs.Adding.{AreReady, GrowsLevel, IsMakeFault}
use Rattle.dd_store.proofs.Storing.{shard-le-count}
use Rattle.dd_store.proofs.AddingAll.{Extends-grown, lacking_absent}
use Rattle.dd_store.proofs.View.{keeps, absent}
use Rattle.expand_work.specs.Fault.{wave_fault}
use Rattle.expand_work.proofs.Zips.{zip_long}
use Rattle.req_table.specs.declared.Key.{Key}
use Rattle.req_table.specs.declared.packed_child.PackedChild.{PackedChild}
use Rattle.req_table.specs.Places.{row, IsAtPlace}
use Rattle.req_table.proofs.AtPlace.{some_same, at_place_some}
use Rattle.reduce_up.specs.declared.division.Origins.{Origins}
use Rattle.reduce_up.specs.Reducing.{IsAnswer, IsAnswerAt, IsRecordAt, AddsDescribed}
use Rattle.reduce_up.specs.Sharing.{IsOfPair}
use Rattle.reduce_up.specs.declared.up.LevelToReduce.{LevelToReduce}
use Rattle.reduce_up.specs.ReductionPhase.{children_of, AskedAt, IsReadyAt, IsLevelReduced, IsLevelFault, ReducesLevel}
use Rattle.reduce_up.specs.Steps.{BothResolveTo, IsMadeOf, MayReadLevel, AreRead}
use Rattle.reduce_up.proofs.Naming.{grown_of_pair, there_part}
use Rattle.reduce_up.proofs.Opposite.{one_node_either, one_node_part}
use Rattle.reduce_up.proofs.Reduction.{made_answer, kept_meaning, record_kept}
use Rattle.reduce_up.proofs.Missing.{record_fault}
use Rattle.reduce_up.proofs.Raising.{rec, one_answer}
use Rattle.reduce_up.proofs.Joined.{AreListed, listed_level, over_in}

-- the partner of an item at a place
zip_beside : {X Y : Type 0} (R : X → Y → Type 0) (xs : List X) (ys : List Y) (i : ℕ) (y : Y) → AllZip R xs ys → slice_get ys i ≡ Some y → (x : X) × (slice_get xs i ≡ Some x) × R x y
zip_beside R [] [] i y h e = absurd (let l = slice_get_within [] i y e in omega (arith, l))
zip_beside R [] (z ∷ ys) i y h e = absurd h
zip_beside R (x ∷ xs) [] i y h e = absurd h
zip_beside R (x ∷ xs) (z ∷ ys) zero y h e = (x, refl, subst (R x) (some_same (slice_get (z ∷ ys) zero) z y refl e) h.0)
zip_beside R (x ∷ xs) (z ∷ ys) (suc i) y h e = zip_beside R xs ys i y h.1 e

-- The level is ready.
module _ (S : Nodes) (T : List (List Key)) (L : LevelToReduce) (R : IsReadyAt S T (children_of L) L.answers.now L.number) where
  abbrev A : List (List Ref)
  A = L.answers.now

  abbrev v : ℕ
  v = L.number

  abbrev children : List (PackedChild × PackedChild)
  children = children_of L

  -- the request at a place
  key_at : (i : ℕ) (d : PackedChild × PackedChild) → slice_get children i ≡ Some d → (k : Key) × IsAtPlace T v i k
  key_at i d at = at_place_some (row T v) i (let e = R.counts in let l = slice_get_within children i d at in omega (arith, e, l))

  -- the diagrams of its children make it a record
  record_at : (i : ℕ) (d : PackedChild × PackedChild) (q : Pair) (k : Key) → slice_get children i ≡ Some d → IsAtPlace T v i k → BothResolveTo A d q → IsRecordAt S v (rec k q.0 q.1)
  record_at i d q k at st of =
      let low = R.low i k d st at in
      let high = R.high i k d st at in
      record {
        key = R.keys i k st;
        low = subst (IsAnswerAt S v k false) (one_answer A d.0 low.1.0 q.0 low.1.1 of.0) low.1.2;
        high = subst (IsAnswerAt S v k true) (one_answer A d.1 high.1.0 q.1 high.1.1 of.1) high.1.2;
      }

  pub comes : (i : ℕ) (d : PackedChild × PackedChild) → slice_get children i ≡ Some d → (p : Pair) × BothResolveTo A d p
  comes i d at =
      let k = key_at i d at in
      let low = R.low i k.0 d k.1 at in
      let high = R.high i k.0 d k.1 at in
      ((low.1.0, high.1.0), (low.1.1, high.1.1))

  -- its parts were read and divided
  module _ (parts : List (Vec (Vec Pair Global) Global)) (origins : List Origins) (D : AreRead L (length L.parts.now) parts origins) where
    abbrev lists : ℕ → List Pair
    lists = all_at parts

    are : AreListed A children lists
    are = listed_level L parts origins D

    -- a pair in a list is that of a request
    of_list : (s : ℕ) (p : Pair) → IsIn (lists s) p → (i : ℕ) × (k : Key) × IsAtPlace T v i k × IsRecordAt S v (rec k p.0 p.1)
    of_list s p w =
        let o = are s p w in
        let k = key_at o.0 o.1 o.2 in
        (o.0, k.0, k.1, record_at o.0 o.1 p k.0 o.2 k.1 o.3)

    pub ready_all : AreReady S v lists
    ready_all = record {
      level = R.bounded;
      differ = λ s p w. (are s p w).4;
      lo_in_store = λ s p w. (of_list s p w).3.low.has;
      hi_in_store = λ s p w. (of_list s p w).3.high.has;
      above = λ s p w. ((of_list s p w).3.low.below, (of_list s p w).3.high.below);
      sharded = λ s p l w. (are s p w).5;
    }

    -- the nodes of the pairs in the lists were made
    module _ (U : Nodes) (held : IsSound S) (sound : IsSound U) (grows : GrowsLevel S U v (regular_lists lists)) where
      kept : Keeps S U
      kept = keeps S U (Extends-grown S U v (regular_lists lists) grows)

      -- the reference for a record's children is its answer
      answered : (k : Key) (p : Pair) (m : Ref) → IsRecordAt S v (rec k p.0 p.1) → Has U m → ((p.0 ≡ p.1) × (m ≡ p.0)) ⊎ ((p.0 ≢ p.1) × (part U m ≡ node v p.0 p.1)) → IsAnswer U k m
      answered k p m i h is = made_answer S U v k p.0 p.1 m held sound i.key i.low i.high kept h is

      asked_as : (w : ℕ) (f g : List Bool → Bool) → Agree S.levels f g → AskedAt S T v w g → AskedAt S T v w f
      asked_as w f g a (at, (q, k, st, e)) = (at, (q, k, st, λ x hx. a x hx ∙ e x hx))

      described : (m : Ref) → Has U m → (s : ℕ) (p : Pair) → IsIn (lists s) p → IsOfPair U v p m → (w : ℕ) × (lo : Ref) × (hi : Ref) × (part U m ≡ node w lo hi) × OfEither (AskedAt S T v w) (den U m)
      described m h s p w (r, is, one) =
          let o = of_list s p w in
          let k : Key = o.1 in
          let key = o.3.key in
          let a : IsAnswer U k r = answered k p r o.3 is.0 (inr ((are s p w).4, is.1)) in
          let asked : AskedAt S T v v (den U r) = (refl, (o.0, k, o.2, λ x hx. a.denotes x (hx ∙ sym kept.levels) ∙ kept_meaning S U held kept k key.first key.second x)) in
          let e = one_node_part U sound m r v p.0 p.1 h is.0 is.1 one in
          (v, e.0, e.1, e.2, one_node_either U m r (AskedAt S T v v) (λ f g z. asked_as v f g (λ x hx. z x (hx ∙ sym kept.levels))) one asked)

      pub adds_all : AddsDescribed S U (AskedAt S T v)
      adds_all = record {
        keeps = kept;
        described = λ m h. elim (grown_of_pair S U v lists grows m h) [ inl old ↦ inl old | inr new ↦ inr (described m h new.0 new.1 new.2 new.3) ];
      }

      -- if the nodes were not made, the fault has its cause
      pub refused_all : (own : List Ref) (f : StoreFault) → IsMakeFault U v (regular_lists lists) f → ReducesLevel S T v (Err (wave_fault f)) U own
      refused_all own f h = record { adds = adds_all; whole = tt; fault = by f h }
        where
          by : (f : StoreFault) → IsMakeFault U v (regular_lists lists) f → IsLevelFault U T v (wave_fault f)
          by OutOfMemory h = tt
          by Full h =
              let s : ℕ = h.0 in
              let full = h.2 in
              let enough : length (shard_at U v s) ≤ count_of U = shard-le-count U (16 * v + s) in
              let m = lacking_absent U v s (lists s) sound (λ p i. (are s p i).5) h.3 in
              let o = of_list s m.0 m.1 in
              let k : Key = o.1 in
              let i : IsRecordAt U v (rec k m.0.0 m.0.1) = record_kept S U held kept v (rec k m.0.0 m.0.1) o.3 in
              let x = record_fault U U v k m.0.0 m.0.1 (Err Full) sound i.key i.low i.high refl (omega (arith, full, enough), (are s m.0 m.1).4, absent U v m.0.0 m.0.1 m.2) in
              (o.0, k, o.2, elim (eq-or-lt_of_le x.0) [ inl e ↦ inr (sym e, x.1) | inr lt ↦ inl lt ])

      -- all requests have their answers
      pub whole_all : (own : List Ref) → AllZip (IsMadeOf A U v) children own → IsLevelReduced S T v (length (row T v)) U own
      whole_all own made = record {
        held = sound;
        adds = adds_all;
        count = sym (zip_long (IsMadeOf A U v) children own made) ∙ R.counts;
        answered = λ q k r st g. by q k r st (zip_beside (IsMadeOf A U v) children own q r made g);
      }
        where
          by : (q : ℕ) (k : Key) (r : Ref) → IsAtPlace T v q k → (d : PackedChild × PackedChild) × (slice_get children q ≡ Some d) × IsMadeOf A U v d r → IsAnswer U k r
          by q k r st (d, at, (p, of, t)) =
              let i = record_at q d p k at st of in
              let h = there_part U v p.0 p.1 r (kept.has p.0 i.low.has) t in
              answered k p r i h.0 h.1

-- a level that is ready may be read, part by part
pub may_read : (S : Nodes) (T : List (List Key)) (L : LevelToReduce) → IsReadyAt S T (children_of L) L.answers.now L.number → All (λ (part : List (List (PackedChild × PackedChild))). L.number < length part) L.parts.now → MayReadLevel L
may_read S T L R levels k d l = record { level = levels k d l; resolvable = resolvable }
  where
    same : get_or L.parts.now k d ≡ row L.parts.now k
    same = get_or_default L.parts.now k d [] l

    resolvable : (j : ℕ) (e : PackedChild × PackedChild) → j < length (row (get_or L.parts.now k d) L.number) → (p : Pair) × BothResolveTo L.answers.now (get_or (row (get_or L.parts.now k d) L.number) j e) p
    resolvable j e lj =
        let at : slice_get (row (row L.parts.now k) L.number) j ≡ Some (get_or (row (get_or L.parts.now k d) L.number) j e) =
        subst (λ (z : List (List (PackedChild × PackedChild))). slice_get (row z L.number) j ≡ Some (get_or (row (get_or L.parts.now k d) L.number) j e)) same (slice_get-get_or (row (get_or L.parts.now k d) L.number) j e lj) in
        let w = over_in L.parts.now k L.number j (get_or (row (get_or L.parts.now k d) L.number) j e) l at in
        comes S T L R w.0 (get_or (row (get_or L.parts.now k d) L.number) j e) w.1
