-- The set of non-empty levels when a level changes.
use Rattle.std.proofs.Common.{◌≡◌, ◌≢◌, ◌∙◌, ℕ, ◌<◌, inl, inr, List, [], length, set, Some, slice_get, sym, ap, subst, arith}
use Rattle.std.proofs.lemmas.List.{length-set}
use Rattle.req_table.specs.LevelSet.{IsMember, member_of}
use Rattle.req_table.specs.Places.{row, AreMembers}
use Rattle.req_table.proofs.AtPlace.{same_level, at_place_none, at_place_some, row_own, row_other}

-- a non-empty level gets another list that is not empty
pub member_more : {X : Type 0} (ms : List ℕ) (T : List (List X)) (l : ℕ) (new : List X) → AreMembers ms T → l < length T → 0 < length (row T l) → 0 < length new → AreMembers ms (set T l new)
member_more {X} ms T l new m lt some more = record {
  room = let z : length (set T l new) ≡ length T = length-set T l new in omega (arith, z, m.room);
  few = let z : length (set T l new) ≡ length T = length-set T l new in omega (arith, z, m.few);
  nonempty = λ w h. elim (same_level w l) [
    | inl d ↦ subst (λ z. 0 < length (row (set T l new) z)) (sym d) (let own : length (row (set T l new) l) ≡ length new = ap length (row_own T l new lt) in omega (arith, own, more))
    | inr d ↦ subst (λ (z : List X). 0 < length z) (sym (row_other T l new w d)) (m.nonempty w h)
  ];
  members = λ w q x h. elim (same_level w l) [
    | inl d ↦ let s = at_place_some (row T l) 0 some in subst (IsMember ms) (sym d) (m.members l 0 s.0 s.1)
    | inr d ↦ m.members w q x (subst (λ (z : List X). slice_get z q ≡ Some x) (row_other T l new w d) h)
  ];
}

-- a level is added to the set and gets a list that is not empty
pub member_first : {X : Type 0} (ms ns : List ℕ) (T : List (List X)) (l : ℕ) (new : List X) → AreMembers ms T → l < length T → 0 < length new → length ns ≡ length ms → IsMember ns l
    → ((w : ℕ) → w ≢ l → member_of ns w ≡ member_of ms w) → AreMembers ns (set T l new)
member_first {X} ms ns T l new m lt some same own others = record {
  room = let z : length (set T l new) ≡ length T = length-set T l new in omega (arith, z, m.room, same);
  few = let z : length (set T l new) ≡ length T = length-set T l new in omega (arith, z, m.few);
  nonempty = λ w h. elim (same_level w l) [
    | inl d ↦ subst (λ z. 0 < length (row (set T l new) z)) (sym d) (let here : length (row (set T l new) l) ≡ length new = ap length (row_own T l new lt) in omega (arith, here, some))
    | inr d ↦ subst (λ (z : List X). 0 < length z) (sym (row_other T l new w d)) (m.nonempty w (sym (others w d) ∙ h))
  ];
  members = λ w q x h. elim (same_level w l) [
    | inl d ↦ subst (IsMember ns) (sym d) own
    | inr d ↦ others w d ∙ m.members w q x (subst (λ (z : List X). slice_get z q ≡ Some x) (row_other T l new w d) h)
  ];
}

-- a level is removed from the set and gets the empty list
pub member_gone : {X : Type 0} (ms ns : List ℕ) (T : List (List X)) (l : ℕ) → AreMembers ms T → l < length T → length ns ≡ length ms → member_of ns l ≡ 0
    → ((w : ℕ) → w ≢ l → member_of ns w ≡ member_of ms w) → AreMembers ns (set T l [])
member_gone {X} ms ns T l m lt same own others = record {
  room = let z : length (set T l []) ≡ length T = length-set T l [] in omega (arith, z, m.room, same);
  few = let z : length (set T l []) ≡ length T = length-set T l [] in omega (arith, z, m.few);
  nonempty = λ w h. elim (same_level w l) [
    | inl d ↦ absurd (let z : member_of ns l ≡ 1 = subst (λ z. member_of ns z ≡ 1) d h in omega (arith, z, own))
    | inr d ↦ subst (λ (z : List X). 0 < length z) (sym (row_other T l [] w d)) (m.nonempty w (sym (others w d) ∙ h))
  ];
  members = λ w q x h. elim (same_level w l) [
    | inl d ↦ absurd (at_place_none (row (set T l []) w) q x (ap (row (set T l [])) d ∙ row_own T l [] lt) h)
    | inr d ↦ others w d ∙ m.members w q x (subst (λ (z : List X). slice_get z q ≡ Some x) (row_other T l [] w d) h)
  ];
}
