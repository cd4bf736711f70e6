-- Children that are placed while the table of their requests' level is moved out.
use Rattle.std.proofs.Common.{◌≡◌, ◌∙◌, ℕ, ◌+◌, ◌<◌, inl, inr, Bool, true, false, suc, List, [], ◌∷◌, ◌++◌, length, set, slice_get, Some, All, refl, sym, ap, subst, arith}
use Rattle.std.proofs.Math.Seq.{get_or-append_seam}
use Rattle.std.proofs.lemmas.List.{length-set, length-append, set-set, set-get_or}
use Rattle.std.proofs.lemmas.List.Elements.{All-nil, All-cons}
use Rattle.std.proofs.lemmas.Option.{slice_get-get_or}
use Rattle.dd_store.specs.Nodes.{Nodes, IsSound}
use Rattle.req_table.specs.declared.Child.{Child}
use Rattle.req_table.specs.declared.Child.TheVariants as child
use Rattle.req_table.specs.declared.Key.{Key}
use Rattle.req_table.specs.declared.packed_child.PackedChild.{PackedChild}
use Rattle.req_table.specs.declared.packed_child.PlacedChild.TheVariants.{Done, Ask}
use Rattle.req_table.specs.Keys.{IsKey, child_of}
use Rattle.req_table.specs.Places.{row, IsAtPlace, IsPlaced, AsksAt, AdmitsChild}
use Rattle.req_table.proofs.AtPlace.{same_level, row_own, row_other}
use Rattle.expand_work.specs.TakenChildren.{AreTaken}
use Rattle.expand_work.proofs.OneByOne.{along}
use Rattle.reduce_up.specs.Waves.{Entry}
use Rattle.reduce_up.specs.ByPlace.{AreAdmitted}
use Rattle.wave_engine.specs.ExpansionPhase.{IsRowExpanded}
use Rattle.wave_engine.proofs.Placing.{child_below, row_start, row_more}

-- The list of level v is put back into the tables: a child that asks for nothing of this level is still placed.
module _ (v : ℕ) (keys : List Key) (T U : List (List Key)) (c : Child) (none : (k : Key) → AsksAt c v k → ⊥) (fits : v < length T) (m : AdmitsChild T c U) where
  within : v < length U
  within = let l : length U ≡ length T = m.levels in omega (arith, l, fits)

  pub admits_back : AdmitsChild (set T v keys) c (set U v keys)
  admits_back = record {
    levels = length-set U v keys ∙ m.levels ∙ sym (length-set T v keys);
    kept = λ w q k h. elim (same_level w v) [
      | inl e ↦ subst (λ (z : List Key). slice_get z q ≡ Some k) (same w e) h
      | inr e ↦ subst (λ (z : List Key). slice_get z q ≡ Some k) (sym (row_other U v keys w e)) (m.kept w q k (subst (λ (z : List Key). slice_get z q ≡ Some k) (row_other T v keys w e) h))
    ];
    only = λ w q k h. elim (same_level w v) [
      | inl e ↦ inl (subst (λ (z : List Key). slice_get z q ≡ Some k) (sym (same w e)) h)
      | inr e ↦ elim (m.only w q k (subst (λ (z : List Key). slice_get z q ≡ Some k) (row_other U v keys w e) h)) [
        | inl o ↦ inl (subst (λ (z : List Key). slice_get z q ≡ Some k) (sym (row_other T v keys w e)) o)
        | inr a ↦ inr a
      ]
    ];
    others = λ w no. elim (same_level w v) [
      | inl e ↦ sym (same w e)
      | inr e ↦ row_other U v keys w e ∙ m.others w no ∙ sym (row_other T v keys w e)
    ];
  }
    where
      same : (w : ℕ) → w ≡ v → row (set T v keys) w ≡ row (set U v keys) w
      same w e = ap (row (set T v keys)) e ∙ row_own T v keys fits ∙ sym (row_own U v keys within) ∙ ap (row (set U v keys)) (sym e)

  pub placed_back : (d : PackedChild) → IsPlaced U d c → IsPlaced (set U v keys) d c
  placed_back (Done r) h = h
  placed_back (Ask l p b) h = elim (same_level l v) [
    | inl e ↦ absurd (none h.0 (b, h.2 ∙ ap (λ z. child.Ask z h.0 b) e))
    | inr e ↦ (h.0, subst (λ (z : List Key). slice_get z p ≡ Some h.0) (sym (row_other U v keys l e)) h.1, h.2)
  ]

  pub none_back : row T v ≡ [] → row U v ≡ []
  none_back e = m.others v none ∙ e

-- the element after the first elements of a list
stands_behind : (ks rest all : List Key) (k : Key) → ks ++ k ∷ rest ≡ all → slice_get all (length ks) ≡ Some k
stands_behind ks rest all k e =
    let long : length ks < length (ks ++ k ∷ rest) = simp length-append (omega arith) in
    subst (λ (z : List Key). slice_get z (length ks) ≡ Some k) e (slice_get-get_or (ks ++ k ∷ rest) (length ks) k long ∙ ap Some (get_or-append_seam ks k rest k))

-- Level v of the tables W is expanded while its table is moved out.
module _ (S : Nodes) (sound : IsSound S) (es : List Entry) (W : List (List Key)) (v : ℕ) (fits : v < length W) (admitted : AreAdmitted S es W) where
  pub record IsUnderWay (ks : List Key) (ds : List (PackedChild × PackedChild)) (m : List (List Key)) : Type 0 where
    pub expanded : IsRowExpanded S es W v (length ks) (set m v (row W v)) ds
    pub none : row m v ≡ []
    pub levels : length m ≡ length W

  whole : set (set W v []) v (row W v) ≡ W
  whole = set-set W v [] (row W v) ∙ set-get_or W v []

  start : IsUnderWay [] [] (set W v [])
  start = record {
    expanded = subst (λ (z : List (List Key)). IsRowExpanded S es W v 0 z []) (sym whole) (row_start S es W v admitted);
    none = row_own W v [] fits;
    levels = length-set W v [];
  }

  next : (ks rest : List Key) (ds : List (PackedChild × PackedChild)) (m : List (List Key)) → IsUnderWay ks ds m → (k : Key) → ks ++ k ∷ rest ≡ row W v → (low high : PackedChild) (n o : List (List Key))
      → IsPlaced n low (child_of S k false) × AdmitsChild m (child_of S k false) n → IsPlaced o high (child_of S k true) × AdmitsChild n (child_of S k true) o → IsUnderWay (ks ++ k ∷ []) (ds ++ (low, high) ∷ []) o
  next ks rest ds m u k e low high n o lows highs = record {
    expanded = subst (λ z. IsRowExpanded S es W v z (set o v K) (ds ++ (low, high) ∷ [])) more
        (row_more S sound es W v (length ks) (set m v K) ds u.expanded k here low high (set n v K) (set o v K)
        (admits_back v K m n (child_of S k false) (no false) fits_m lows.1) (placed_back v K m n (child_of S k false) (no false) fits_m lows.1 low lows.0)
        (admits_back v K n o (child_of S k true) (no true) fits_n highs.1) (placed_back v K n o (child_of S k true) (no true) fits_n highs.1 high highs.0));
    none = none_back v K n o (child_of S k true) (no true) fits_n highs.1 (none_back v K m n (child_of S k false) (no false) fits_m lows.1 u.none);
    levels = highs.1.levels ∙ lows.1.levels ∙ u.levels;
  }
    where
      K : List Key
      K = row W v

      fits_m : v < length m
      fits_m = let l : length m ≡ length W = u.levels in omega (arith, l, fits)

      fits_n : v < length n
      fits_n = let l : length n ≡ length m = lows.1.levels in omega (arith, l, fits_m)

      here : IsAtPlace (set m v K) v (length ks) k
      here = subst (λ (z : List Key). slice_get z (length ks) ≡ Some k) (sym (row_own m v K fits_m)) (stands_behind ks rest K k e)

      no : (b : Bool) (x : Key) → AsksAt (child_of S k b) v x → ⊥
      no b x a = let lt : v < v = child_below S sound es v k b (u.expanded.admitted.keys v (length ks) k here) v x a in omega (arith, lt)

      more : length ks + 1 ≡ length (ks ++ k ∷ [])
      more = simp length-append (omega arith)

  -- if the children of all its requests were taken, the level is expanded after its table is put back
  pub row_taken : (m : List (List Key)) (keys : List Key) → m ≡ set W v [] → keys ≡ row W v → (ds : List (PackedChild × PackedChild)) (U : List (List Key)) → AreTaken (λ w c p u. IsPlaced u p c × AdmitsChild w c u) S m keys ds U
      → IsUnderWay (row W v) ds U
  row_taken m keys out all ds U t =
      let takes : List (List Key) → Child → PackedChild → List (List Key) → Type 0 = λ w c p u. IsPlaced u p c × AdmitsChild w c u in
      along takes S (row W v) IsUnderWay next (set W v []) ds U start (subst (λ (z : List (List Key)). AreTaken takes S z (row W v) ds U) out (subst (λ (z : List Key). AreTaken takes S m z ds U) all t))

-- what holds of the element at each place holds of all
of_places : (P : Key → Type 0) (ks : List Key) → ((q : ℕ) (k : Key) → slice_get ks q ≡ Some k → P k) → All P ks
of_places P [] h = All-nil P
of_places P (k ∷ ks) h = All-cons P k ks (h 0 k refl) (of_places P ks (λ q x e. h (suc q) x e))

-- the requests that wait at a level are keys of the store
pub keys_stand : (S : Nodes) (es : List Entry) (W : List (List Key)) (v : ℕ) → AreAdmitted S es W → All (IsKey S) (row W v)
keys_stand S es W v a = of_places (IsKey S) (row W v) (λ q k h. (a.keys v q k h).key)
