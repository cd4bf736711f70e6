-- Requests by place: what is at a place of a level, and what is placed there.
use Rattle.std.specs.Prelude.{◌≡◌, ℕ, ◌+◌, ◌*◌, ◌^◌, ◌<◌, ◌≤◌, ◌⊎◌, Bool, List, [], ◌∷◌, ◌++◌, length, slice_get, slice_index_or, Option}
use Rattle.std.specs.Prelude.{None, Some}
use Rattle.req_table.specs.declared.Key.{Key}
use Rattle.req_table.specs.declared.Child.{Child}
use Rattle.req_table.specs.declared.Child.TheVariants as child
use Rattle.req_table.specs.LevelSet.{IsMember}
use Rattle.req_table.specs.declared.packed_child.PackedChild.{PackedChild}
use Rattle.req_table.specs.declared.packed_child.PlacedChild.TheVariants.{Done, Ask}

-- the list of a level
abbrev pub row : {X : Type 0} → List (List X) → ℕ → List X
row lists v = slice_index_or lists v []

-- x is at place p of level l
abbrev pub IsAtPlace : {X : Type 0} → List (List X) → ℕ → ℕ → X → Type 0
IsAtPlace lists l p x = slice_get (row lists l) p ≡ Some x

-- the key k is at place p of the list `new`, which is the list `old`, or `old` with k added at the end
abbrev pub Enters : List Key → Key → ℕ → List Key → Type 0
Enters old k p new = (slice_get new p ≡ Some k) × ((new ≡ old) ⊎ (new ≡ old ++ k ∷ []))

-- a placed child is its child's answer, or has the place of its request
abbrev pub IsPlaced : List (List Key) → PackedChild → Child → Type 0
IsPlaced tables (Done r) c = c ≡ child.Done r
IsPlaced tables (Ask l p m) c = (k : Key) × IsAtPlace tables l p k × (c ≡ child.Ask l k m)

-- a child asks for a request of a level, or for the complement of its answer
abbrev pub AsksAt : Child → ℕ → Key → Type 0
AsksAt c l k = (m : Bool) × (c ≡ child.Ask l k m)

-- a child was admitted: what was at a place is still there, and if anything is new, it is the child's request at its
-- level
pub record AdmitsChild (old : List (List Key)) (c : Child) (new : List (List Key)) : Type 0 where
  pub levels : length new ≡ length old
  pub kept : (w q : ℕ) (k : Key) → IsAtPlace old w q k → IsAtPlace new w q k
  pub only : (w q : ℕ) (k : Key) → IsAtPlace new w q k → IsAtPlace old w q k ⊎ AsksAt c w k
  pub others : (w : ℕ) → ((k : Key) → AsksAt c w k → ⊥) → row new w ≡ row old w

-- n empty lists
pub record AreEmpty {X : Type 0} (lists : List (List X)) (n : ℕ) : Type 0 where
  pub levels : length lists ≡ n
  pub empty : (w : ℕ) → row lists w ≡ []

-- the levels from v on that are before u are empty
abbrev pub AreNone : {X : Type 0} → List (List X) → ℕ → ℕ → Type 0
AreNone {X} lists v u = (w q : ℕ) (x : X) → v ≤ w → w < u → IsAtPlace lists w q x → ⊥

-- the first level from v on that is not empty, or None if there is none
abbrev pub IsNextLevel : {X : Type 0} → List (List X) → ℕ → Option ℕ → Type 0
IsNextLevel {X} lists v None = (w q : ℕ) (x : X) → v ≤ w → IsAtPlace lists w q x → ⊥
IsNextLevel lists v (Some u) = (v ≤ u) × (u < length lists) × (0 < length (row lists u)) × AreNone lists v u

-- the last level before u that is not empty, or None if there is none
abbrev pub IsLastLevel : {X : Type 0} → List (List X) → ℕ → Option ℕ → Type 0
IsLastLevel lists u None = AreNone lists 0 u
IsLastLevel lists u (Some v) = (v < u) × (0 < length (row lists v)) × AreNone lists (v + 1) u

-- exactly the levels that are not empty are in the set
pub record AreMembers {X : Type 0} (levels : List ℕ) (lists : List (List X)) : Type 0 where
  pub room : length lists ≤ 64 * length levels
  pub few : length lists < 2 ^ 16
  pub nonempty : (w : ℕ) → IsMember levels w → 0 < length (row lists w)
  pub members : (w q : ℕ) (x : X) → IsAtPlace lists w q x → IsMember levels w
