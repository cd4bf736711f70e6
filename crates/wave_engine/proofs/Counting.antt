-- The number of requests that are split on the way down: none is missed.
use Rattle.std.proofs.Common.{◌≡◌, ◌∙◌, ℕ, ◌+◌, ◌-◌, ◌%◌, ◌^◌, ◌<◌, ◌≤◌, ◌⊎◌, inl, inr, Bool, true, false, List, [], ◌++◌, length, slice_get, Some, None, refl, sym, ap, subst, arith}
use Rattle.std.proofs.lemmas.Bool.{cases_lt}
use Rattle.std.proofs.lemmas.List.{length-append}
use Rattle.std.proofs.lemmas.Option.{slice_get-get_or, slice_get_within, get_or_from_slice_get}
use Rattle.slot_table.specs.Lists.{IsIn, IsOnce}
use Rattle.slot_table.proofs.Pigeons.{pigeons}
use Rattle.dd_store.specs.Nodes.{Nodes}
use Rattle.dd_store.proofs.Places.{slice_get-append}
use Rattle.req_table.specs.declared.Key.{Key}
use Rattle.req_table.specs.declared.Child.TheVariants as child
use Rattle.req_table.specs.declared.packed_child.PackedChild.{PackedChild}
use Rattle.req_table.specs.declared.packed_child.PlacedChild.TheVariants.{Done, Ask}
use Rattle.req_table.specs.Keys.{level_of, child_of, answer_of, wave_of}
use Rattle.req_table.specs.Reached.{IsReached, root as root_of, child as child_from}
use Rattle.expand_work.proofs.Once.{append_cases, once_append}
use Rattle.reduce_up.specs.Waves.{Entry, requests_of}
use Rattle.reduce_up.proofs.Rooted.{of_entry}
use Rattle.wave_engine.specs.Bounds.{AreMoreThan, AreAtMost}
use Rattle.reduce_up.specs.ByPlace.{AreAdmitted, AreExpanded, IsSplitAt}
use Rattle.wave_engine.specs.ExpansionPhase.{HaveSplit}
use Rattle.req_table.specs.Places.{row, IsAtPlace, IsPlaced, AreNone, IsNextLevel}
use Rattle.req_table.proofs.AtPlace.{in_lists, at_place_some}
use Rattle.reduce_up.proofs.Answering.{root_for}
use Rattle.slot_table.proofs.Listing.{in_back}

-- what was split before level v, and, if there is a bound, what is left of it
pub record IsCounted (s : Nodes) (entries : List Entry) (tables : List (List Key)) (bound left before after v : ℕ) : Type 0 where
  pub split : HaveSplit s entries tables v before after
  pub sum : bound < 2 ^ 64 - 1 → left + length split.requests ≡ bound

-- before the first level nothing was split
pub none_counted : (s : Nodes) (entries : List Entry) (T : List (List Key)) (bound count : ℕ) → IsCounted s entries T bound bound count count 0
none_counted s entries T bound count = record {
  split = record {
    requests = [];
    once = λ i j x e f. absurd (let z : i < 0 = slice_get_within [] i x e in omega (arith, z));
    reached = λ k h. absurd (let z : h.0 < 0 = slice_get_within [] h.0 k h.1 in omega (arith, z));
    above = λ k h. absurd (let z : h.0 < 0 = slice_get_within [] h.0 k h.1 in omega (arith, z));
    whole = λ w q k lt h. absurd (omega (arith, lt));
    count = omega arith;
  };
  sum = λ b. omega arith;
}

-- The requests that were split before level v, and then those of a level u.
module _ (s : Nodes) (entries : List Entry) (T : List (List Key)) (admitted : AreAdmitted s entries T) (bound left before after v : ℕ) (c : IsCounted s entries T bound left before after v) (u : ℕ) (behind : v ≤ u) (own : IsOnce (row T u)) where
  abbrev old : List Key
  old = c.split.requests

  abbrev all : List Key
  all = old ++ row T u

  all_once : IsOnce all
  all_once = once_append old (row T u) c.split.once own (λ k a b. let m = c.split.above k a in let at : level_of s k ≡ u = (admitted.keys u b.0 k b.1).level in omega (arith, m, at, behind))

  all_reached : (k : Key) → IsIn all k → IsReached (wave_of s 1) (requests_of entries) k
  all_reached k h = elim (append_cases old (row T u) h.0 k h.1) [ inl g ↦ c.split.reached k (h.0, g) | inr g ↦ (admitted.keys u g.0 k g.2).reached ]

  all_above : (k : Key) → IsIn all k → level_of s k < u + 1
  all_above k h =
      elim (append_cases old (row T u) h.0 k h.1) [
        | inl g ↦ let m = c.split.above k (h.0, g) in omega (arith, m, behind)
        | inr g ↦ let at : level_of s k ≡ u = (admitted.keys u g.0 k g.2).level in omega (arith, at)
      ]

  long : length all ≡ length old + length (row T u)
  long = length-append old (row T u)

  all_whole : AreNone T v u → (w q : ℕ) (k : Key) → w ≤ u → IsAtPlace T w q k → IsIn all k
  all_whole none w q k le h =
      elim (cases_lt w v) [
        | inl earlier ↦ let m = c.split.whole w q k earlier h in (m.0, slice_get-append old (row T u) m.0 k m.1)
        | inr from ↦ elim (cases_lt w u) [
          | inl lt ↦ absurd (none w q k from lt h)
          | inr ge ↦ let same : w ≡ u = omega (arith, le, ge) in in_back old (row T u) k (q, subst (λ z. IsAtPlace T z q k) same h)
        ]
      ]

  -- the requests of the level are counted too, in tables that agree on it and on the levels before
  pub more_counted : AreNone T v u → (U : List (List Key)) → ((w : ℕ) → w ≤ u → row U w ≡ row T w) → (count rest later : ℕ) → count ≡ length (row T u) → (bound < 2 ^ 64 - 1 → rest + count ≡ left)
      → later % 2 ^ 64 ≡ (after + length (row T u)) % 2 ^ 64 → IsCounted s entries U bound rest before later (u + 1)
  more_counted none U still count rest later e f n = record {
    split = record {
      requests = all;
      once = all_once;
      reached = all_reached;
      above = all_above;
      whole = λ w q k lt h. let le : w ≤ u = omega (arith, lt) in all_whole none w q k le (subst (λ (z : List Key). slice_get z q ≡ Some k) (still w le) h);
      count = let l = long in let m = c.split.count in omega (arith, n, l, m);
    };
    sum = λ b. let l = long in let m = c.sum b in let g = f b in omega (arith, e, g, l, m);
  }

  -- if the requests of the level are more than are left of the bound, the entries reach more than it
  pub too_many : bound < 2 ^ 64 - 1 → (count : ℕ) → count ≡ length (row T u) → left < count → AreMoreThan bound s entries
  too_many b count e lt = record {
    requests = all;
    once = all_once;
    reached = λ k m. all_reached k (m.0, slice_get-get_or all m.0 k m.1 ∙ ap (λ z. Some z) m.2);
    more = let l = long in let m = c.sum b in omega (arith, e, lt, l, m);
  }

-- what was counted before level v was counted before level u, if there are no requests between them
pub counted_passed : (s : Nodes) (entries : List Entry) (T : List (List Key)) (bound left before after v u : ℕ) → IsCounted s entries T bound left before after v → v ≤ u → AreNone T v u → IsCounted s entries T bound left before after u
counted_passed s entries T bound left before after v u c le none = record {
  split = record {
    requests = c.split.requests;
    once = c.split.once;
    reached = c.split.reached;
    above = λ k h. let m = c.split.above k h in omega (arith, m, le);
    whole = λ w q k lt h. elim (cases_lt w v) [ inl l ↦ c.split.whole w q k l h | inr from ↦ absurd (none w q k from lt h) ];
    count = c.split.count;
  };
  sum = c.sum;
}

-- Tables whose levels before v are expanded, and a property F of each request from there on, and of its children.
module _ (s : Nodes) (entries : List Entry) (roots : List PackedChild) (T : List (List Key)) (rows : List (List (PackedChild × PackedChild))) (v : ℕ) (x : AreExpanded s entries roots v T rows) (F : Key → Type 0) (start : (w q : ℕ) (k : Key) → v ≤ w → IsAtPlace T w q k → F k)
    (next : (k c : Key) (b : Bool) (l : ℕ) (m : Bool) → F k → child_of s k b ≡ child.Ask l c m → F c) where
  abbrev pub Above : Key → Type 0
  Above k = (w : ℕ) × (q : ℕ) × (w < v) × IsAtPlace T w q k

  sorted : (w q : ℕ) (k : Key) → IsAtPlace T w q k → Above k ⊎ F k
  sorted w q k h = elim (cases_lt w v) [ inl lt ↦ inl (w, q, lt, h) | inr le ↦ inr (start w q k le h) ]

  asked_sorted : (p : PackedChild) (l : ℕ) (k : Key) (m : Bool) → IsPlaced T p (child.Ask l k m) → Above k ⊎ F k
  asked_sorted (Done r) l k m h = absurd (cc)
  asked_sorted (Ask w q n) l k m h = let same : h.0 ≡ k = let e : child.Ask l k m ≡ child.Ask w h.0 n = h.2 in cc in sorted w q k (subst (λ z. IsAtPlace T w q z) same h.1)

  children_sorted : (k : Key) → Above k → (b : Bool) (l : ℕ) (c : Key) (m : Bool) → child_of s k b ≡ child.Ask l c m → Above c ⊎ F c
  children_sorted k (w, q, lt, h) b l c m asks = by b asks
    where
      pair : (d : PackedChild × PackedChild) × IsAtPlace rows w q d
      pair = at_place_some (row rows w) q (let n : length (row rows w) ≡ length (row T w) = x.counts w lt in let fit : q < length (row T w) = slice_get_within (row T w) q k h in omega (arith, n, fit))

      split : IsSplitAt s T k pair.0
      split = x.split w q k pair.0 lt h pair.1

      by : (b : Bool) → child_of s k b ≡ child.Ask l c m → Above c ⊎ F c
      by false e = asked_sorted pair.0.0 l c m (subst (IsPlaced T pair.0.0) e split.0)
      by true e = asked_sorted pair.0.1 l c m (subst (IsPlaced T pair.0.1) e split.1)

  -- each reached request is before level v, or F holds of it
  pub reached_sorted : (k : Key) → IsReached (wave_of s 1) (requests_of entries) k → Above k ⊎ F k
  reached_sorted k (root_of c) =
      let e = of_entry entries k c in
      let p = root_for s T entries roots x.rooted e.0 e.1 in
      let asked : Above _ ⊎ F _ = asked_sorted p.0 _ _ _ (subst (λ t. IsPlaced T p.0 (answer_of s e.0.0 e.0.1 e.0.2 t)) e.2 p.1) in
      subst (λ z. Above z ⊎ F z) (sym e.3) asked
  reached_sorted k (child_from {x = above} b l m r asks) = elim (reached_sorted above r) [ inl a ↦ children_sorted above a b l k m asks | inr f ↦ inr (next above k b l m f asks) ]

-- Tables whose levels are all expanded: if all requests were counted, they are within the bound.
pub all_counted : (s : Nodes) (entries : List Entry) (roots : List PackedChild) (T : List (List Key)) (rows : List (List (PackedChild × PackedChild))) → AreExpanded s entries roots s.levels T rows →
    (bound left before after v : ℕ) → bound < 2 ^ 64 - 1 → IsCounted s entries T bound left before after v → IsNextLevel T v None → AreAtMost bound s entries
all_counted s entries roots T rows x bound left before after v bounded c none requests once reached =
    let fits : length requests ≤ length c.split.requests = pigeons (λ j k. j ≡ k) requests c.split.requests once (λ i k at. (k, refl, found k (reached k (i, slice_get_within requests i k at, get_or_from_slice_get requests i k k at)))) (λ j k l a b. a ∙ sym b) in
    let sum : left + length c.split.requests ≡ bound = c.sum bounded in
    omega (arith, fits, sum)
  where
    deep : (w q : ℕ) (k : Key) → s.levels ≤ w → IsAtPlace T w q k → ⊥
    deep w q k le h = let lt : w < length T = in_lists T w q k h in let n : length T ≡ s.levels = x.admitted.levels in omega (arith, lt, n, le)

    found : (k : Key) → IsReached (wave_of s 1) (requests_of entries) k → IsIn c.split.requests k
    found k r =
        elim (reached_sorted s entries roots T rows s.levels x (λ k. ⊥) deep (λ k c b l m f e. f) k r) [
          | inl a ↦ elim (cases_lt a.0 v) [ inl lt ↦ c.split.whole a.0 a.1 k lt a.3 | inr le ↦ absurd (none a.0 a.1 k le a.3) ]
          | inr f ↦ absurd f
        ]
