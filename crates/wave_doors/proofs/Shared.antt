-- A level whose shards several threads share: what they leave, seen through references, and what this is for the
-- level's records.
use Rattle.std.proofs.Common.{◌≡◌, ℕ, ◌+◌, ◌*◌, ◌<◌, ◌≤◌, inl, inr, List, length, get_or, Some, None, refl, sym, ◌∙◌, ap, subst, arith, Contains, All}
use Rattle.std.specs.Prelude.{slice_index_or, Result, Ok, Err, MatchResult, OnOk, IfErr}
use Rattle.std.specs.List.{AllZip}
use Rattle.std.proofs.Math.Nat.{eq-or-lt_of_le}
use Rattle.std.proofs.lemmas.List.Elements.{All-contains, Contains-get_or}
use Rattle.dd_store.specs.declared.reference.Ref.{Ref}
use Rattle.dd_store.specs.declared.StoreFault.{StoreFault}
use Rattle.dd_store.specs.declared.StoreFault.TheVariants.{Full, OutOfMemory}
use Rattle.req_table.specs.declared.Key.{Key}
use Rattle.req_table.specs.declared.Record.{Record}
use Rattle.dd_store.specs.Graph.{Pair}
use Rattle.dd_store.specs.Hashes.{shard_of_pair}
use Rattle.dd_store.specs.Growing.{IsIn}
use Rattle.dd_store.specs.Nodes.{Nodes, shard_at, IsSound, IsThere, count_of}
use Rattle.dd_store.specs.Adding.{AreReady, GrowsLevel, IsLevelFault}
use Rattle.dd_store.specs.Levels.{regular_lists}
use Rattle.dd_store.proofs.Storing.{small_shard, shard-le-count}
use Rattle.dd_store.proofs.AddingAll.{Extends-grown, added_there, lacking_absent}
use Rattle.dd_store.proofs.View.{keeps, same_ref, absent}
use Rattle.expand_work.specs.Fault.{wave_fault}
use Rattle.reduce_up.specs.Reducing.{AreAnswers, HasAnswer, IsRow, IsRowReduced, IsRowFault, NotesAnswer}
use Rattle.reduce_up.specs.Sharing.{IsPairOf, CanBeNode, AreDivided, AddsRow, IsRowRefused, NotesFirst}
use Rattle.wave_doors.specs.Sharing.{AddsPairs, HasPair, IsPairsFault}
use Rattle.reduce_up.proofs.Naming.{grown_of_pair}
use Rattle.reduce_up.proofs.Shared.{added, noted, refused, stands, zip_right, zip_through}

-- pairs that can be children of nodes of a level may be added to it
pub ready : (S : Nodes) (v : ℕ) (pairs : List Pair) (lists : ℕ → List Pair) → v < S.levels → All (CanBeNode S v) pairs → AreDivided pairs lists → AreReady S v lists
ready S v pairs lists lt can d = record {
  level = lt;
  differ = λ s p w. (d.only s p w).1;
  lo_in_store = λ s p w. (of s p w).has_low;
  hi_in_store = λ s p w. (of s p w).has_high;
  above = λ s p w. ((of s p w).below_low, (of s p w).below_high);
  sharded = λ s p lt w. (d.only s p w).2;
}
  where
    of : (s : ℕ) (p : Pair) → IsIn (lists s) p → CanBeNode S v p
    of s p w = All-contains (CanBeNode S v) pairs p can (d.only s p w).0

-- each new node is that of a pair
pub adds_pairs : (S T : Nodes) (v : ℕ) (pairs : List Pair) (lists : ℕ → List Pair) → GrowsLevel S T v (regular_lists lists) → AreDivided pairs lists → AddsPairs S T v pairs
adds_pairs S T v pairs lists g d = record {
  keeps = keeps S T (Extends-grown S T v (regular_lists lists) g);
  only = λ m h. elim (grown_of_pair S T v lists g m h) [ inl old ↦ inl old | inr new ↦ (let o = d.only new.0 new.1 new.2 in inr (new.1, o.0, o.1, new.3)) ];
}

-- if no pair is missing, each has its reference
pub has_pairs : (T : Nodes) (v : ℕ) (pairs : List Pair) (lists : ℕ → List Pair) → AreDivided pairs lists → IsLevelFault T v (regular_lists lists) None → (p : Pair) → Contains pairs p → HasPair T v p
has_pairs T v pairs lists d f p c = elim (same_ref p.0 p.1) [
  | yes e ↦ (p.0, inl (e, refl))
  | no n ↦ added_there T v lists f (shard_of_pair p.0 p.1) p (small_shard p.0 p.1) (d.all p c n) n
]

-- if a pair is missing from a full shard, the store is full
pub pairs_fault : (T : Nodes) (v : ℕ) (pairs : List Pair) (lists : ℕ → List Pair) (f : StoreFault) → IsSound T → AreDivided pairs lists → IsLevelFault T v (regular_lists lists) (Some f) → IsPairsFault T v pairs f
pairs_fault T v pairs lists OutOfMemory w d h = tt
pairs_fault T v pairs lists Full w d (s, lt, full, lacks) =
    let enough : length (shard_at T v s) ≤ count_of T = shard-le-count T (16 * v + s) in
    let m = lacking_absent T v s (lists s) w (λ p i. (d.only s p i).2) lacks in
    let o = d.only s m.0 m.1 in
    (m.0, o.0, (omega (arith, full, enough), o.1, absent T v m.0.0 m.0.1 m.2))

-- ---- what was added, or why nothing was, by the result of the store
pub pairs_there : (T : Nodes) (v : ℕ) (pairs : List Pair) (lists : ℕ → List Pair) (r : Result (Unit {0}) StoreFault) → AreDivided pairs lists →
    MatchResult r (λ _. IsLevelFault T v (regular_lists lists) None) (λ f. IsLevelFault T v (regular_lists lists) (Some f)) → OnOk r (All (HasPair T v) pairs)
pairs_there T v pairs lists (Ok u) d h = λ k e lt. has_pairs T v pairs lists d h (get_or pairs k e) (Contains-get_or pairs k e lt)
pairs_there T v pairs lists (Err f) d h = tt

pub pairs_refused : (T : Nodes) (v : ℕ) (pairs : List Pair) (lists : ℕ → List Pair) (r : Result (Unit {0}) StoreFault) → IsSound T → AreDivided pairs lists →
    MatchResult r (λ _. IsLevelFault T v (regular_lists lists) None) (λ f. IsLevelFault T v (regular_lists lists) (Some f)) → IfErr r (λ f. IsPairsFault T v pairs f)
pairs_refused T v pairs lists (Ok u) w d h = tt
pairs_refused T v pairs lists (Err f) w d h = pairs_fault T v pairs lists f w d h

-- ---- pairs of all records of a row, in a list
module _ (S : Nodes) (before : List (Key × Ref)) (v : ℕ) (row : List Record) (pairs : List Pair) (held : IsSound S) (answers : AreAnswers S before) (is_row : IsRow S before v row) (are : AllZip (IsPairOf before) row pairs) where
  pub can_stand : (p : Pair) → Contains pairs p → CanBeNode S v p
  can_stand p c = let w = zip_right (IsPairOf before) row pairs are p c in stands S before v row held answers is_row w.0 p w.1 w.2

  module _ (T : Nodes) (sound : IsSound T) (adds : AddsPairs S T v pairs) where
    row_adds : AddsRow before S T v row
    row_adds = record {
      keeps = adds.keeps;
      only = λ m h. elim (adds.only m h) [
        | inl old ↦ inl old
        | inr new ↦ let w = zip_right (IsPairOf before) row pairs are new.0 new.1 in inr (w.0, new.0, w.1, w.2, new.2, new.3)
      ];
    }

    pub row_added : IsRowReduced S before v row 0 T before
    row_added = added S before v row held answers is_row T sound row_adds

    of_pairs : (f : StoreFault) → IsPairsFault T v pairs f → IsRowRefused before T v row f
    of_pairs OutOfMemory h = tt
    of_pairs Full h = let w = zip_right (IsPairOf before) row pairs are h.0 h.1 in (w.0, h.0, w.1, w.2, h.2)

    pub row_refused : (f : StoreFault) → IsPairsFault T v pairs f → IsRowFault T v row (wave_fault f)
    row_refused f h = refused S before v row held answers is_row T sound row_adds f (of_pairs f h)

    pub row_noted : (found : List Ref) → AllZip (λ (p : Pair) r. IsThere T v p.0 p.1 r) pairs found → (i : ℕ) (after : List (Key × Ref)) → NotesFirst before row found i after → IsRowReduced S before v row i T after
    row_noted found there i after n = noted S before v row held answers is_row T sound row_adds found
        (zip_through (IsPairOf before) (λ (p : Pair) r. IsThere T v p.0 p.1 r) row pairs found are there) i after n

-- no answer was noted yet
pub notes_none : (old : List (Key × Ref)) (row : List Record) (found : List Ref) → NotesFirst old row found 0 old
notes_none old row found = record { only = λ k a c. inl c; more = λ k h. h; done = λ j d lt. absurd (omega arith) }

pub notes_fewer : (old : List (Key × Ref)) (row : List Record) (found : List Ref) (i : ℕ) (new : List (Key × Ref)) → NotesFirst old row found i new → NotesFirst old row found 0 new
notes_fewer old row found i new n = record { only = n.only; more = n.more; done = λ j d lt. absurd (omega arith) }

-- one more answer is noted
pub notes_next : (old : List (Key × Ref)) (row : List Record) (found : List Ref) (i : ℕ) (mid : List (Key × Ref)) (entry : Record) (answer : Ref) (new : List (Key × Ref)) →
    i < length row → ((d : Record) → entry ≡ get_or row i d) → ((d : Ref) → answer ≡ get_or found i d) → NotesFirst old row found i mid → NotesAnswer mid entry.key answer new → NotesFirst old row found (i + 1) new
notes_next old row found i mid entry answer new lt at beside n m = record {
  only = λ k a c. elim (m.only k a c) [
    | inl before ↦ n.only k a before
    | inr e ↦ inr (i, entry, lt, ap (λ z. z.key) (sym (at entry)) ∙ sym e.0, sym (beside a) ∙ sym e.1)
  ];
  more = λ k h. m.more k (n.more k h);
  done = λ j d lj. elim (eq-or-lt_of_le (let z : j ≤ i = omega arith in z)) [
    | inl same ↦ subst (λ z. HasAnswer new z.key) (at d ∙ ap (λ z. get_or row z d) (sym same)) m.noted
    | inr below ↦ m.more (slice_index_or row j d).key (n.done j d below)
  ];
}
