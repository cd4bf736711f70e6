-- A level that several threads share: the pairs of diagrams of its records, their division by shard, and their nodes.
use Rattle.std.specs.Prelude.{◌≡◌, ◌≢◌, ℕ, ◌<◌, ◌⊎◌, List, [], ◌∷◌, ◌++◌, length, Contains, slice_index_or}
use Rattle.dd_store.specs.declared.reference.Ref.{Ref}
use Rattle.dd_store.specs.declared.StoreFault.{StoreFault}
use Rattle.dd_store.specs.declared.StoreFault.TheVariants.{Full, OutOfMemory}
use Rattle.req_table.specs.declared.Key.{Key}
use Rattle.req_table.specs.declared.Record.{Record}
use Rattle.dd_store.specs.Graph.{Pair}
use Rattle.dd_store.specs.Hashes.{shard_of_pair}
use Rattle.dd_store.specs.Growing.{IsIn}
use Rattle.dd_store.specs.Nodes.{Nodes, IsThere}
use Rattle.dd_store.specs.View.{Has, top, Keeps, IsNode, IsOneNode, IsFull}
use Rattle.reduce_up.specs.Reducing.{HasAnswer, IsResolved}

-- the diagrams of the two children of a record
abbrev pub IsPairOf : List (Key × Ref) → Record → Pair → Type 0
IsPairOf results r p = IsResolved results r.low p.0 × IsResolved results r.high p.1

-- r is the reference for the diagrams of the children of a record
abbrev pub IsAnswered : List (Key × Ref) → Nodes → ℕ → Record → Ref → Type 0
IsAnswered results s v d r = (p : Pair) × IsPairOf results d p × IsThere s v p.0 p.1 r

-- the pair can be the children of a node of level v: both are references of the store below it
pub record CanBeNode (s : Nodes) (v : ℕ) (p : Pair) : Type 0 where
  pub has_low : Has s p.0
  pub has_high : Has s p.1
  pub below_low : v < top s p.0
  pub below_high : v < top s p.1

-- one pair was added: it is the last of the list of its shard, unless its diagrams are equal; all other lists are as
-- before
pub record IsListed (old : ℕ → List Pair) (p : Pair) (new : ℕ → List Pair) : Type 0 where
  pub equal : p.0 ≡ p.1 → (s : ℕ) → new s ≡ old s
  pub own : p.0 ≢ p.1 → new (shard_of_pair p.0 p.1) ≡ old (shard_of_pair p.0 p.1) ++ p ∷ []
  pub others : (s : ℕ) → s ≢ shard_of_pair p.0 p.1 → new s ≡ old s

-- each pair of different children is in the list of its shard, and the lists have no others
pub record AreDivided (pairs : List Pair) (lists : ℕ → List Pair) : Type 0 where
  pub all : (p : Pair) → Contains pairs p → p.0 ≢ p.1 → IsIn (lists (shard_of_pair p.0 p.1)) p
  pub only : (s : ℕ) (p : Pair) → IsIn (lists s) p → Contains pairs p × (p.0 ≢ p.1) × (shard_of_pair p.0 p.1 ≡ s)

-- m is the node of level v for a pair, or the complement of it
abbrev pub IsOfPair : Nodes → ℕ → Pair → Ref → Type 0
IsOfPair s v p m = (r : Ref) × IsNode s v p.0 p.1 r × IsOneNode s m r

-- the pairs of all records of a row can be children of nodes of level v
abbrev pub RowCanBeNodes : List (Key × Ref) → Nodes → ℕ → List Record → Type 0
RowCanBeNodes results s v row = (d : Record) (p : Pair) → Contains row d → IsPairOf results d p → CanBeNode s v p

-- new keeps what old has, and each other node of new is one of level v for the pair of different diagrams of a record,
-- or the complement of one
pub record AddsRow (results : List (Key × Ref)) (old new : Nodes) (v : ℕ) (row : List Record) : Type 0 where
  pub keeps : Keeps old new
  pub only : (m : Ref) → Has new m → Has old m ⊎ ((d : Record) × (p : Pair) × Contains row d × IsPairOf results d p × (p.0 ≢ p.1)
      × IsOfPair new v p m)

-- the cause of a refusal: Full means that the store has as many nodes as its limit and lacks the node of a record's
-- pair
abbrev pub IsRowRefused : List (Key × Ref) → Nodes → ℕ → List Record → StoreFault → Type 0
IsRowRefused results s v row OutOfMemory = Unit {0}
IsRowRefused results s v row Full = (d : Record) × (p : Pair) × Contains row d × IsPairOf results d p × IsFull s v p.0 p.1 Full

-- of a row and the answers of its records, in order, the first i are in `new`, whose other answers are those of `old`;
-- a key that has an answer keeps one
pub record NotesFirst (old : List (Key × Ref)) (row : List Record) (answers : List Ref) (i : ℕ) (new : List (Key × Ref)) : Type 0 where
  pub only : (k : Key) (a : Ref) → Contains new (k, a) → Contains old (k, a)
      ⊎ ((j : ℕ) × (d : Record) × (j < length row) × ((slice_index_or row j d).key ≡ k) × (slice_index_or answers j a ≡ a))
  pub more : (k : Key) → HasAnswer old k → HasAnswer new k
  pub done : (j : ℕ) (d : Record) → j < i → HasAnswer new (slice_index_or row j d).key
