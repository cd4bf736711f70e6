-- A list that is divided by a number for each of its items, and joined again.
use Rattle.std.specs.Prelude.{◌≡◌, ◌≢◌, ◌==◌, ◌<◌, ◌≤◌, ℕ, cond, List, [], ◌∷◌, ◌++◌, length, map, slice_index_or, take, drop, All}
use Rattle.std.specs.declared.vec.Vec.{Vec}
use Rattle.std.specs.declared.alloc.Global.{Global}
use Rattle.dd_store.specs.Levels.{list_at, all_at, refs_at}
use Rattle.dd_store.specs.declared.reference.Ref.{Ref}
use Rattle.dd_store.specs.Graph.{Pair}
use Rattle.dd_store.specs.Hashes.{shard_of_pair}
use Rattle.dd_store.specs.Growing.{IsIn}
use Rattle.reduce_up.specs.declared.division.PairsByShard.{PairsByShard}
use Rattle.reduce_up.specs.declared.division.Origins.{Origins}
use Rattle.reduce_up.specs.AnswersByLevel.{joined}
use Rattle.reduce_up.specs.Sharing.{IsListed}

-- the items whose number is s
abbrev pub chosen : {X : Type 0} → ℕ → List ℕ → List X → List X
chosen s [] xs = []
chosen s (h ∷ hs) [] = []
chosen s (h ∷ hs) (x ∷ xs) = cond (h == s) (x ∷ chosen s hs xs) (chosen s hs xs)

-- n items of a list, from a place on
abbrev pub span : {X : Type 0} → ℕ → ℕ → List X → List X
span start n xs = take n (drop start xs)

-- pairs of each diagram with itself
abbrev pub twice : List Ref → List Pair
twice rs = map (λ (r : Ref). (r, r)) rs

-- An origin for each pair that was read: its shard, or 16 if both are one diagram. Each list has the pairs of its
-- shard, and `equal` the diagrams of the others, in the order in which the pairs were read.
pub record IsDivided (pairs : List Pair) (origins : Origins) (lists : ℕ → List Pair) : Type 0 where
  pub long : length origins.numbers.items ≡ length pairs
  pub within : All (λ h. h ≤ 16) origins.numbers.items
  pub differ : (s : ℕ) → s < 16 → chosen s origins.numbers.items pairs ≡ lists s
  pub same : chosen 16 origins.numbers.items pairs ≡ twice origins.equal.items
  pub own : (s : ℕ) (p : Pair) → IsIn (lists s) p → (p.0 ≢ p.1) × (shard_of_pair p.0 p.1 ≡ s)

-- one pair was added: it has an origin, and it is in the list of its shard, or its one diagram is kept
pub record IsPut (old : PairsByShard) (p : Pair) (new : PairsByShard) : Type 0 where
  pub listed : IsListed (list_at old.lists.items) p (list_at new.lists.items)
  pub same : p.0 ≡ p.1 → (new.origins.numbers.items ≡ old.origins.numbers.items ++ 16 ∷ [])
      × (new.origins.equal.items ≡ old.origins.equal.items ++ p.0 ∷ [])
  pub differ : p.0 ≢ p.1 → (new.origins.numbers.items ≡ old.origins.numbers.items ++ shard_of_pair p.0 p.1 ∷ [])
      × (new.origins.equal.items ≡ old.origins.equal.items)

-- each list has as many items as there are origins that name it
pub record AreOrigins (origins : Origins) (lists : ℕ → List Pair) : Type 0 where
  pub within : All (λ h. h ≤ 16) origins.numbers.items
  pub many : (s : ℕ) → s < 16 → length (chosen s origins.numbers.items origins.numbers.items) ≡ length (lists s)
  pub same : length (chosen 16 origins.numbers.items origins.numbers.items) ≡ length origins.equal.items

-- the diagrams of an origin
abbrev pub source : List (Vec Ref Global) → Origins → ℕ → List Ref
source refs origins s = cond (s == 16) origins.equal.items (refs_at refs s)

-- a diagram for each origin: those of origin s are its next ones, from a place on, in order
pub record IsPicked (origins : List ℕ) (starts : ℕ → ℕ) (sources : ℕ → List Ref) (answers : List Ref) : Type 0 where
  pub long : length answers ≡ length origins
  pub each : (s : ℕ) → s ≤ 16 → chosen s origins answers ≡ span (starts s) (length (chosen s origins answers)) (sources s)

-- the place at which the references of part k's pairs begin among those of shard s: after those of the parts before it
abbrev pub begin_of : List (Vec (Vec Pair Global) Global) → ℕ → ℕ → ℕ
begin_of parts k s = length (all_at (take k parts) s)

-- the diagrams of part k, in the order in which its pairs were read
abbrev pub IsPickedOf : List (Vec (Vec Pair Global) Global) → List (Vec Ref Global) → ℕ → Origins → List Ref → Type 0
IsPickedOf parts refs k origins answers = IsPicked origins.numbers.items (begin_of parts k) (source refs origins) answers

-- the diagrams of each of the first m parts, in the order in which its pairs were read
pub record ArePicked (parts : List (Vec (Vec Pair Global) Global)) (origins : List Origins) (refs : List (Vec Ref Global)) (m : ℕ)
    (answers : List (List Ref)) : Type 0 where
  pub long : length answers ≡ m
  pub each : (k : ℕ) (d : List Ref) (h : Origins) → k < m
      → IsPickedOf parts refs k (slice_index_or origins k h) (slice_index_or answers k d)

-- the diagrams of all parts, one part after the other
abbrev pub AreInPartOrder : List (Vec (Vec Pair Global) Global) → List Origins → List (Vec Ref Global) → List Ref → Type 0
AreInPartOrder parts origins refs all = (answers : List (List Ref)) × ArePicked parts origins refs (length origins) answers × (all ≡ joined answers)

-- a reference for each pair, by shard
pub record AreRefsOf (parts : List (Vec (Vec Pair Global) Global)) (refs : List (Vec Ref Global)) : Type 0 where
  pub sixteen : length refs ≡ 16
  pub many : (s : ℕ) → s < 16 → length (refs_at refs s) ≡ length (all_at parts s)

-- each part has a list for each shard
abbrev pub HaveSixteen : List (Vec (Vec Pair Global) Global) → Type 0
HaveSixteen parts = All (λ part. length part.items ≡ 16) parts

-- the diagrams of all parts can be picked: each part has sixteen lists of pairs and an origin for each request, and
-- each pair has its reference
pub record MayPick (parts : List (Vec (Vec Pair Global) Global)) (origins : List Origins) (refs : List (Vec Ref Global)) : Type 0 where
  pub many : length parts ≡ length origins
  pub sixteen : HaveSixteen parts
  pub refs_of : AreRefsOf parts refs
  pub origins_of : (k : ℕ) (d : Vec (Vec Pair Global) Global) (h : Origins) → k < length origins
      → AreOrigins (slice_index_or origins k h) (list_at (slice_index_or parts k d).items)
