-- The requests of expanded levels are not kept: what holds of all tables follows from those that wait.
use Rattle.std.proofs.Common.{◌≡◌, ◌∙◌, ℕ, ◌+◌, ◌-◌, ◌%◌, ◌^◌, ◌<◌, ◌≤◌, inl, inr, true, false, List, [], ◌∷◌, ◌++◌, zero, suc, length, set, take, drop, slice_get, Some, refl, sym, ap, subst, arith}
use Rattle.std.proofs.Math.ListN.{length-drop}
use Rattle.std.proofs.Math.Nat.{eq-or-lt_of_le}
use Rattle.std.proofs.lemmas.Bool.{cases_lt}
use Rattle.std.proofs.lemmas.List.{length-append, length-set, length-take-le, get_or_append_left, get_or-append_right, get_or-take, get_or-drop}
use Rattle.slot_table.specs.Lists.{IsOnce}
use Rattle.dd_store.specs.declared.reference.Ref.{Ref}
use Rattle.dd_store.specs.Nodes.{Nodes}
use Rattle.req_table.specs.declared.Key.{Key}
use Rattle.req_table.specs.declared.packed_child.PackedChild.{PackedChild}
use Rattle.req_table.specs.Keys.{child_of}
use Rattle.reduce_up.specs.Waves.{Entry}
use Rattle.req_table.specs.Places.{row, IsAtPlace, AreNone, AreEmpty}
use Rattle.reduce_up.specs.ByPlace.{AreAdmitted, IsSplitAt, AreExpanded}
use Rattle.wave_engine.specs.ExpansionPhase.{Grow, IsRowExpanded, AreWaiting, IsExpandedTo, IsExpandedWithin}
use Rattle.reduce_up.specs.AnswersByLevel.{joined}
use Rattle.wave_engine.specs.Front.{keys_from}
use Rattle.reduce_up.specs.ReductionPhase.{IsWithinBelow, AreReducedBelow}
use Rattle.req_table.proofs.AtPlace.{same_level, at_place_none, row_own, row_other, row_none}
use Rattle.wave_engine.proofs.Placing.{placed_kept, levels_passed, level_more}
use Rattle.wave_engine.proofs.Counting.{IsCounted, none_counted, more_counted, counted_passed}

-- the lists of T before level v, and those of W from there on
abbrev pub splice : {X : Type 0} → ℕ → List (List X) → List (List X) → List (List X)
splice v T W = take v T ++ drop v W

splice_before : {X : Type 0} (v : ℕ) (T W : List (List X)) (w : ℕ) → v ≤ length T → w < v → row (splice v T W) w ≡ row T w
splice_before v T W w fits lt =
    let long : length (take v T) ≡ v = length-take-le v T fits in
    get_or_append_left (take v T) (drop v W) [] w (omega (arith, long, lt)) ∙ get_or-take v T w [] lt

splice_from : {X : Type 0} (v : ℕ) (T W : List (List X)) (w : ℕ) → v ≤ length T → v ≤ w → row (splice v T W) w ≡ row W w
splice_from v T W w fits le =
    get_or-append_right (take v T) (drop v W) v w [] (length-take-le v T fits) le ∙ get_or-drop v W (w - v) [] ∙ ap (row W) (let e : v + (w - v) ≡ w = omega (arith, le) in e)

splice_length : {X : Type 0} (v : ℕ) (T W : List (List X)) → v ≤ length T → length W ≡ length T → length (splice v T W) ≡ length T
splice_length v T W fits same =
    let t : length (take v T) ≡ v = length-take-le v T fits in
    let d : length (drop v W) ≡ length W - v = length-drop v W in
    simp length-append (omega (arith, t, d, same, fits))

-- lists that are equal from a place on
drop_same : {X : Type 0} (v : ℕ) (a b : List (List X)) → length a ≡ length b → ((w : ℕ) → v ≤ w → row a w ≡ row b w) → drop v a ≡ drop v b
drop_same zero [] [] l e = refl
drop_same zero [] (y ∷ b) l e = absurd (omega (arith, l))
drop_same zero (x ∷ a) [] l e = absurd (omega (arith, l))
drop_same zero (x ∷ a) (y ∷ b) l e =
    let head : x ≡ y = e 0 (omega arith) in
    let tail : a ≡ b = drop_same zero a b (let n : length a ≡ length b = omega (arith, l) in n) (λ w le. e (suc w) (omega arith)) in
    ap (λ z. z ∷ a) head ∙ ap (λ z. y ∷ z) tail
drop_same (suc v) [] [] l e = refl
drop_same (suc v) [] (y ∷ b) l e = absurd (omega (arith, l))
drop_same (suc v) (x ∷ a) [] l e = absurd (omega (arith, l))
drop_same (suc v) (x ∷ a) (y ∷ b) l e = drop_same v a b (let n : length a ≡ length b = omega (arith, l) in n) (λ w le. e (suc w) (omega (arith, le)))

-- The tables that wait from level v on.
module _ (T : List (List Key)) (v : ℕ) (W : List (List Key)) (a : AreWaiting T v W) where
  to_all : (w q : ℕ) (k : Key) → IsAtPlace W w q k → IsAtPlace T w q k
  to_all w q k h = elim (cases_lt w v) [
    | inl lt ↦ absurd (at_place_none (row W w) q k (a.emptied w lt) h)
    | inr le ↦ subst (λ (z : List Key). slice_get z q ≡ Some k) (a.same w le) h
  ]

  from_all : (w q : ℕ) (k : Key) → v ≤ w → IsAtPlace T w q k → IsAtPlace W w q k
  from_all w q k le h = subst (λ (z : List Key). slice_get z q ≡ Some k) (sym (a.same w le)) h

  pub none_waits : (u : ℕ) → AreNone W v u → AreNone T v u
  none_waits u none w q k le lt h = none w q k le lt (from_all w q k le h)

  pub waiting_admitted : (s : Nodes) (entries : List Entry) → AreAdmitted s entries T → AreAdmitted s entries W
  waiting_admitted s entries d = record { levels = a.levels ∙ d.levels; keys = λ w q k h. d.keys w q k (to_all w q k h) }

  pub waiting_keys : keys_from v W ≡ keys_from v T
  waiting_keys = ap joined (drop_same v W T a.levels a.same)

  pub waiting_within : (start s : Nodes) → IsWithinBelow start W v s → IsWithinBelow start T v s
  waiting_within start s (inl le) = inl le
  waiting_within start s (inr n) = inr (λ w q k le h. n.0 w q k le (from_all w q k le h), n.1)

  pub waiting_reduced : (start : Nodes) (entries : List Entry) (s : Nodes) (A : List (List Ref)) → AreReducedBelow start entries W v s A → AreReducedBelow start entries T v s A
  waiting_reduced start entries s A r = record {
    held = r.held;
    adds = r.adds;
    levels = r.levels;
    counts = λ w q k le h. r.counts w q k le (from_all w q k le h) ∙ ap length (a.same w le);
    answered = λ w q k x le h g. r.answered w q k x le (from_all w q k le h) g;
    within = waiting_within start s r.within;
  }

  -- levels without waiting requests are skipped
  pub waits_on : (u : ℕ) → v ≤ u → AreNone W v u → AreWaiting T u W
  waits_on u le none = record {
    levels = a.levels;
    emptied = λ w lt. elim (cases_lt w v) [ inl l ↦ a.emptied w l | inr ge ↦ row_none W w (λ q k h. none w q k ge lt h) ];
    same = λ w ge. a.same w (omega (arith, le, ge));
  }

  -- Level v is expanded, from the requests that wait there.
  module _ (s : Nodes) (entries : List Entry) (d : AreAdmitted s entries T) (fits : v ≤ length T) (U : List (List Key)) (pairs : List (PackedChild × PackedChild)) (r : IsRowExpanded s entries W v (length (row W v)) U pairs) where
    abbrev all : List (List Key)
    all = splice v T U

    long : length U ≡ length T
    long = r.admitted.levels ∙ sym d.levels

    into : Grow U all
    into w q k h = elim (cases_lt w v) [
      | inl lt ↦ absurd (at_place_none (row U w) q k (r.above w (omega (arith, lt)) ∙ a.emptied w lt) h)
      | inr le ↦ subst (λ (z : List Key). slice_get z q ≡ Some k) (sym (splice_from v T U w fits le)) h
    ]

    pub row_whole : IsRowExpanded s entries T v (length (row T v)) all pairs
    row_whole = record {
      admitted = record {
        levels = splice_length v T U fits long ∙ d.levels;
        keys = λ w q k h. elim (cases_lt w v) [
          | inl lt ↦ d.keys w q k (subst (λ (z : List Key). slice_get z q ≡ Some k) (splice_before v T U w fits lt) h)
          | inr le ↦ r.admitted.keys w q k (subst (λ (z : List Key). slice_get z q ≡ Some k) (splice_from v T U w fits le) h)
        ];
      };
      grown = λ w q k h. elim (cases_lt w v) [
        | inl lt ↦ subst (λ (z : List Key). slice_get z q ≡ Some k) (sym (splice_before v T U w fits lt)) h
        | inr le ↦ into w q k (r.grown w q k (from_all w q k le h))
      ];
      above = λ w le. elim (eq-or-lt_of_le le) [
        | inl e ↦ splice_from v T U w fits (omega (arith, e)) ∙ r.above w le ∙ a.same w (omega (arith, e))
        | inr lt ↦ splice_before v T U w fits lt
      ];
      count = r.count ∙ ap length (a.same v (omega arith));
      split = λ q k p h g.
          let m : IsSplitAt s U k p = r.split q k p (subst (λ (z : List Key). slice_get z q ≡ Some k) (splice_from v T U v fits (omega arith)) h) g in
          (placed_kept U all into p.0 (child_of s k false) m.0, placed_kept U all into p.1 (child_of s k true) m.1);
    }

    pub waits_next : v < length T → AreWaiting all (v + 1) (set U v [])
    waits_next lt = record {
      levels = length-set U v [] ∙ long ∙ sym (splice_length v T U fits long);
      emptied = λ w l. elim (same_level w v) [
        | inl e ↦ ap (row (set U v [])) e ∙ row_own U v [] (omega (arith, long, lt))
        | inr e ↦ let before : w < v = grind (arith, l, e) in row_other U v [] w e ∙ r.above w (omega (arith, before)) ∙ a.emptied w before
      ];
      same = λ w le. row_other U v [] w (λ e. omega (arith, e, le)) ∙ sym (splice_from v T U w fits (omega (arith, le)));
    }

-- The levels before v are expanded, and T has their requests; from v on T has those that wait.
pub record IsGoing (s : Nodes) (entries : List Entry) (roots : List PackedChild) (v : ℕ) (waiting : List (List Key)) (rows : List (List (PackedChild × PackedChild))) (bound left before after : ℕ) (T : List (List Key)) : Type 0 where
  pub expanded : AreExpanded s entries roots v T rows
  pub once : (w : ℕ) → w < v → IsOnce (row T w)
  pub waits : AreWaiting T v waiting
  pub counted : IsCounted s entries T bound left before after v
  pub later : (w : ℕ) → v ≤ w → row rows w ≡ []

pub going_start : (s : Nodes) (entries : List Entry) (roots : List PackedChild) (W : List (List Key)) (rows : List (List (PackedChild × PackedChild))) (n bound count : ℕ) → AreExpanded s entries roots 0 W rows → AreEmpty rows n
    → IsGoing s entries roots 0 W rows bound bound count count W
going_start s entries roots W rows n bound count e empty = record {
  expanded = e;
  once = λ w lt. absurd (omega (arith, lt));
  waits = record { levels = refl; emptied = λ w lt. absurd (omega (arith, lt)); same = λ w le. refl };
  counted = none_counted s entries W bound count;
  later = λ w le. empty.empty w;
}

-- A wave whose levels before v are expanded.
module _ (s : Nodes) (entries : List Entry) (roots : List PackedChild) (v : ℕ) (W : List (List Key)) (rows : List (List (PackedChild × PackedChild))) (bound left before after : ℕ) (T : List (List Key)) (g : IsGoing s entries roots v W rows bound left before after T) where
  -- levels without waiting requests are skipped
  pub going_passed : (u : ℕ) → v ≤ u → AreNone W v u → IsGoing s entries roots u W rows bound left before after T
  going_passed u le none =
      let all : AreNone T v u = none_waits T v W g.waits u none in record {
        expanded = levels_passed s entries roots v u T rows g.expanded all g.later;
        once = λ w lt. elim (cases_lt w v) [
          | inl l ↦ g.once w l
          | inr ge ↦ λ i j x e f. absurd (all w i x ge lt e)
        ];
        waits = waits_on T v W g.waits u le none;
        counted = counted_passed s entries T bound left before after v u g.counted le all;
        later = λ w ge. g.later w (omega (arith, le, ge));
      }

  -- one more level is expanded
  pub going_next : v < s.levels → IsOnce (row W v) → (U : List (List Key)) (pairs : List (PackedChild × PackedChild)) → IsRowExpanded s entries W v (length (row W v)) U pairs → (count rest more : ℕ) → count ≡ length (row W v) →
      (bound < 2 ^ 64 - 1 → rest + count ≡ left) → more % 2 ^ 64 ≡ (after + length (row W v)) % 2 ^ 64 → IsGoing s entries roots (v + 1) (set U v []) (set rows v pairs) bound rest before more (splice v T U)
  going_next lt own U pairs r count rest more c sum n = record {
    expanded = level_more s entries roots v T rows lt g.expanded (splice v T U) pairs whole;
    once = λ w l. elim (same_level w v) [
      | inl e ↦ subst IsOnce (sym (ap (row (splice v T U)) e ∙ whole.above v (omega arith))) here
      | inr e ↦ let b : w < v = grind (arith, l, e) in subst IsOnce (sym (whole.above w (omega (arith, b)))) (g.once w b)
    ];
    waits = waits_next T v W g.waits s entries g.expanded.admitted (omega (arith, fits)) U pairs r fits;
    counted = more_counted s entries T g.expanded.admitted bound left before after v g.counted v (omega arith) here (λ w q k ge l h. omega (arith, ge, l)) (splice v T U) whole.above count rest more (c ∙ same) sum (n ∙ ap (λ z. (after + z) % 2 ^ 64) same);
    later = λ w ge. row_other rows v pairs w (λ e. omega (arith, e, ge)) ∙ g.later w (omega (arith, ge));
  }
    where
      fits : v < length T
      fits = let l : length T ≡ s.levels = g.expanded.admitted.levels in omega (arith, l, lt)

      whole : IsRowExpanded s entries T v (length (row T v)) (splice v T U) pairs
      whole = row_whole T v W g.waits s entries g.expanded.admitted (omega (arith, fits)) U pairs r

      here : IsOnce (row T v)
      here = subst IsOnce (g.waits.same v (omega arith)) own

      same : length (row W v) ≡ length (row T v)
      same = ap length (g.waits.same v (omega arith))

  -- with a bound at most so many requests were split
  pub going_within : v ≤ s.levels → bound < 2 ^ 64 - 1 → IsExpandedWithin bound s entries v W rows roots before after
  going_within le b = (record { tables = T; bound = le; expanded = g.expanded; once = g.once; split = g.counted.split; waits = g.waits }, let e = g.counted.sum b in omega (arith, e))

  pub going_down : v ≤ s.levels → IsExpandedTo s entries v W rows roots before after
  going_down le = record { tables = T; bound = le; expanded = g.expanded; once = g.once; split = g.counted.split; waits = g.waits }
