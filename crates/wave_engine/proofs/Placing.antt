-- Placing children, and the levels that are expanded.
use Rattle.std.proofs.Common.{◌≡◌, ◌≢◌, ℕ, ◌+◌, ◌<◌, ◌≤◌, ◌⊎◌, inl, inr, true, false, Bool, List, [], ◌∷◌, ◌++◌, length, set, Option, Some, None, slice_get, refl, sym, ◌∙◌, ap, subst, arith, Contains}
use Rattle.std.specs.List.{AllZip}
use Rattle.std.proofs.lemmas.Bool.{cases_lt}
use Rattle.std.proofs.lemmas.List.{length-set, length-append}
use Rattle.dd_store.specs.declared.reference.Ref.{Ref}
use Rattle.dd_store.specs.Nodes.{Nodes, IsSound}
use Rattle.dd_store.proofs.Places.{slice_get_cases-push}
use Rattle.req_table.specs.declared.Key.{Key}
use Rattle.req_table.specs.declared.Child.{Child}
use Rattle.req_table.specs.Keys.{IsKey, IsChildIn, level_of, normal_of, child as child_at, child_of, answer_of}
use Rattle.req_table.specs.Reached.{root as root_of, child as child_from}
use Rattle.req_table.specs.TerminalCase.{terminal_of}
use Rattle.req_table.proofs.Waved.{child_level, held, deeper}
use Rattle.reduce_up.specs.Waves.{Entry, requests_of}
use Rattle.reduce_up.proofs.Rooted.{to_request}
use Rattle.req_table.specs.declared.packed_child.PackedChild.{PackedChild}
use Rattle.req_table.specs.declared.packed_child.PlacedChild.TheVariants.{Done, Ask}
use Rattle.req_table.proofs.AtPlace.{same_level, some_same, at_place_none, row_own, row_other, row_none}
use Rattle.req_table.specs.Places.{row, IsAtPlace, IsPlaced, AsksAt, AdmitsChild, AreNone}
use Rattle.reduce_up.specs.ByPlace.{IsAdmitted, AreAdmitted, IsSplitAt, AreExpanded}
use Rattle.wave_engine.specs.ExpansionPhase.{Grow, IsRowExpanded}

-- what is placed stays placed
pub placed_kept : (T U : List (List Key)) → Grow T U → (d : PackedChild) (c : Child) → IsPlaced T d c → IsPlaced U d c
placed_kept T U g (Done r) c h = h
placed_kept T U g (Ask l p m) c h = (h.0, g l p h.0 h.1, h.2)

pub all_placed_kept : (S : Nodes) (T U : List (List Key)) → Grow T U → (es : List Entry) (ps : List PackedChild)
    → AllZip (λ e p. IsPlaced T p (child_at S e.0 e.1 e.2)) es ps → AllZip (λ e p. IsPlaced U p (child_at S e.0 e.1 e.2)) es ps
all_placed_kept S T U g [] [] z = z
all_placed_kept S T U g [] (p ∷ ps) z = z
all_placed_kept S T U g (e ∷ es) [] z = z
all_placed_kept S T U g (e ∷ es) (p ∷ ps) z = (placed_kept T U g p (child_at S e.0 e.1 e.2) z.0, all_placed_kept S T U g es ps z.1)

pub admitted_more : (S : Nodes) (es : List Entry) (T : List (List Key)) (c : Child) (U : List (List Key)) → AreAdmitted S es T → AdmitsChild T c U
    → ((l : ℕ) (k : Key) → AsksAt c l k → IsAdmitted S es l k) → AreAdmitted S es U
admitted_more S es T c U a m new = record {
  levels = m.levels ∙ a.levels;
  keys = λ w q k h. elim (m.only w q k h) [ inl o ↦ a.keys w q k o | inr e ↦ new w k e ];
}

-- the request of an entry
asked_entry : (S : Nodes) (e : Entry) (l : ℕ) (k : Key) (t : Option Ref) → AsksAt (answer_of S e.0 e.1 e.2 t) l k → (t ≡ None) × ((normal_of e.0 e.1 e.2).0 ≡ k)
asked_entry S e l k None (m, h) = (refl, cc)
asked_entry S e l k (Some r) (m, h) = absurd (cc)

pub root_admitted : (S : Nodes) (es : List Entry) (e : Entry) → Contains es e → IsChildIn S (child_at S e.0 e.1 e.2) → (l : ℕ) (k : Key) → AsksAt (child_at S e.0 e.1 e.2) l k → IsAdmitted S es l k
root_admitted S es e c i l k h =
    let a = asked_entry S e l k (terminal_of e.0 e.1 e.2) h in
    let in_store : IsKey S k × (l ≡ level_of S k) = subst (IsChildIn S) h.1 i in
    record { key = in_store.0; level = sym in_store.1; reached = root_of (subst (Contains (requests_of es)) a.1 (to_request es e c a.0)) }

-- the request of a key's child
pub child_admitted : (S : Nodes) → IsSound S → (es : List Entry) (w : ℕ) (k : Key) (b : Bool) → IsAdmitted S es w k → (l : ℕ) (c : Key) → AsksAt (child_of S k b) l c → IsAdmitted S es l c
child_admitted S sound es w k b a l c h = record {
  key = held S sound k c b l h.0 a.key h.1;
  level = sym (child_level S sound k c b l h.0 h.1);
  reached = child_from b l h.0 a.reached h.1;
}

-- is deeper than the key
pub child_below : (S : Nodes) → IsSound S → (es : List Entry) (v : ℕ) (k : Key) (b : Bool) → IsAdmitted S es v k → (l : ℕ) (c : Key) → AsksAt (child_of S k b) l c → v < l
child_below S sound es v k b a l c h =
    let d : level_of S k < level_of S c = deeper S sound k c b l h.0 a.key h.1 in
    let t : l ≡ level_of S c = child_level S sound k c b l h.0 h.1 in
    let m : level_of S k ≡ v = a.level in
    omega (arith, d, t, m)

pub row_start : (S : Nodes) (es : List Entry) (T : List (List Key)) (v : ℕ) → AreAdmitted S es T → IsRowExpanded S es T v 0 T []
row_start S es T v a = record { admitted = a; grown = λ w q k h. h; above = λ w le. refl; count = refl; split = λ q k d h g. absurd (at_place_none [] q d refl g) }

-- one more request is expanded
pub row_more : (S : Nodes) → IsSound S → (es : List Entry) (T0 : List (List Key)) (v i : ℕ) (T : List (List Key)) (pairs : List (PackedChild × PackedChild)) → IsRowExpanded S es T0 v i T pairs →
    (k : Key) → IsAtPlace T v i k → (low high : PackedChild) (T1 T2 : List (List Key)) → AdmitsChild T (child_of S k false) T1 → IsPlaced T1 low (child_of S k false) →
    AdmitsChild T1 (child_of S k true) T2 → IsPlaced T2 high (child_of S k true) → IsRowExpanded S es T0 v (i + 1) T2 (pairs ++ (low, high) ∷ [])
row_more S sound es T0 v i T pairs so k at low high T1 T2 m1 p1 m2 p2 = record {
  admitted = admitted_more S es T1 (child_of S k true) T2 (admitted_more S es T (child_of S k false) T1 so.admitted m1 (child_admitted S sound es v k false own)) m2 (child_admitted S sound es v k true own);
  grown = λ w q x h. grown w q x (so.grown w q x h);
  above = λ w le. still w le ∙ so.above w le;
  count = simp length-append (omega (arith, so.count));
  split = λ q x d h g. by q x d h (slice_get_cases-push pairs (low, high) q d g);
}
  where
    own : IsAdmitted S es v k
    own = so.admitted.keys v i k at

    grown : Grow T T2
    grown w q x h = m2.kept w q x (m1.kept w q x h)

    still : (w : ℕ) → w ≤ v → row T2 w ≡ row T w
    still w le =
        m2.others w (λ x e. let lt : v < w = child_below S sound es v k true own w x e in omega (arith, lt, le))
        ∙ m1.others w (λ x e. let lt : v < w = child_below S sound es v k false own w x e in omega (arith, lt, le))

    back : (q : ℕ) (x : Key) → IsAtPlace T2 v q x → IsAtPlace T v q x
    back q x h = subst (λ (z : List Key). slice_get z q ≡ Some x) (still v (let le : v ≤ v = omega arith in le)) h

    by : (q : ℕ) (x : Key) (d : PackedChild × PackedChild) → IsAtPlace T2 v q x → (slice_get pairs q ≡ Some d) ⊎ ((q ≡ length pairs) × (d ≡ (low, high))) → IsSplitAt S T2 x d
    by q x d h (inl g) =
        let s = so.split q x d (back q x h) g in
        (placed_kept T T2 grown d.0 (child_of S x false) s.0, placed_kept T T2 grown d.1 (child_of S x true) s.1)
    by q x d h (inr g) =
        let here : IsAtPlace T v i x = subst (λ z. IsAtPlace T v z x) (g.0 ∙ so.count) (back q x h) in
        let same : k ≡ x = some_same (slice_get (row T v) i) k x at here in
        subst (λ z. IsSplitAt S T2 z d) same
        (subst (λ (z : PackedChild × PackedChild). IsSplitAt S T2 k z) (sym g.1) (placed_kept T1 T2 m2.kept low (child_of S k false) p1, p2))

-- one more level is expanded
pub level_more : (S : Nodes) (es : List Entry) (roots : List PackedChild) (v : ℕ) (T : List (List Key)) (rows : List (List (PackedChild × PackedChild))) → v < S.levels → AreExpanded S es roots v T rows →
    (U : List (List Key)) (pairs : List (PackedChild × PackedChild)) → IsRowExpanded S es T v (length (row T v)) U pairs → AreExpanded S es roots (v + 1) U (set rows v pairs)
level_more S es roots v T rows lt e U pairs r = record {
  admitted = r.admitted;
  rooted = all_placed_kept S T U r.grown es roots e.rooted;
  levels = length-set rows v pairs ∙ e.levels;
  counts = λ w l. counts w l (same_level w v);
  split = λ w q k d l h g. split w q k d l h g (same_level w v);
}
  where
    here : v < length rows
    here = let m : length rows ≡ S.levels = e.levels in omega (arith, m, lt)

    counts : (w : ℕ) → w < v + 1 → (w ≡ v) ⊎ (w ≢ v) → length (row (set rows v pairs) w) ≡ length (row U w)
    counts w l (inl d) =
        subst (λ z. length (row (set rows v pairs) z) ≡ length (row U z)) (sym d)
        (ap length (row_own rows v pairs here) ∙ r.count ∙ sym (ap length (r.above v (let le : v ≤ v = omega arith in le))))
    counts w l (inr d) =
        let le : w < v = grind (arith, l, d) in
        ap length (row_other rows v pairs w d) ∙ e.counts w le ∙ sym (ap length (r.above w (omega (arith, le))))

    split : (w q : ℕ) (k : Key) (d : PackedChild × PackedChild) → w < v + 1 → IsAtPlace U w q k → IsAtPlace (set rows v pairs) w q d → (w ≡ v) ⊎ (w ≢ v) → IsSplitAt S U k d
    split w q k d l h g (inl m) =
        r.split q k d (subst (λ z. IsAtPlace U z q k) m h)
        (subst (λ (z : List (PackedChild × PackedChild)). slice_get z q ≡ Some d) (row_own rows v pairs here) (subst (λ z. IsAtPlace (set rows v pairs) z q d) m g))
    split w q k d l h g (inr m) =
        let le : w < v = grind (arith, l, m) in
        let s = e.split w q k d le (subst (λ (z : List Key). slice_get z q ≡ Some k) (r.above w (omega (arith, le))) h)
        (subst (λ (z : List (PackedChild × PackedChild)). slice_get z q ≡ Some d) (row_other rows v pairs w m) g) in
        (placed_kept T U r.grown d.0 (child_of S k false) s.0, placed_kept T U r.grown d.1 (child_of S k true) s.1)

-- levels without requests are skipped
pub levels_passed : (S : Nodes) (es : List Entry) (roots : List PackedChild) (v u : ℕ) (T : List (List Key)) (rows : List (List (PackedChild × PackedChild))) → AreExpanded S es roots v T rows → AreNone T v u → ((w : ℕ) → v ≤ w → row rows w ≡ [])
    → AreExpanded S es roots u T rows
levels_passed S es roots v u T rows e none later = record {
  admitted = e.admitted;
  rooted = e.rooted;
  levels = e.levels;
  counts = λ w lt. elim (cases_lt w v) [
    | inl l ↦ e.counts w l
    | inr le ↦ ap length (later w le) ∙ sym (ap length (row_none T w (λ q k h. none w q k le lt h)))
  ];
  split = λ w q k d lt h g. elim (cases_lt w v) [ inl l ↦ e.split w q k d l h g | inr le ↦ absurd (none w q k le lt h) ];
}
