-- A level that several threads share: the pairs of diagrams of its records, their division by shard, and their nodes.
use Rattle.std.specs.Prelude.{◌≢◌, ℕ, ◌⊎◌, List, Contains}
use Rattle.dd_store.specs.declared.reference.Ref.{Ref}
use Rattle.dd_store.specs.declared.StoreFault.{StoreFault}
use Rattle.dd_store.specs.declared.StoreFault.TheVariants.{Full, OutOfMemory}
use Rattle.dd_store.specs.Graph.{Pair}
use Rattle.dd_store.specs.Nodes.{Nodes, IsThere}
use Rattle.dd_store.specs.View.{Has, Keeps, IsFull}
use Rattle.reduce_up.specs.Sharing.{IsOfPair}

-- new keeps what old has, and each other node of new is one of level v for a pair of different diagrams, or the
-- complement of one
pub record AddsPairs (old new : Nodes) (v : ℕ) (pairs : List Pair) : Type 0 where
  pub keeps : Keeps old new
  pub only : (m : Ref) → Has new m → Has old m ⊎ ((p : Pair) × Contains pairs p × (p.0 ≢ p.1) × IsOfPair new v p m)

-- there is a reference for the pair: the child if both are equal, or the node of level v
abbrev pub HasPair : Nodes → ℕ → Pair → Type 0
HasPair s v p = (r : Ref) × IsThere s v p.0 p.1 r

-- the cause of a fault: Full means that the store has as many nodes as its limit and lacks a pair's node
abbrev pub IsPairsFault : Nodes → ℕ → List Pair → StoreFault → Type 0
IsPairsFault s v pairs OutOfMemory = Unit {0}
IsPairsFault s v pairs Full = (p : Pair) × Contains pairs p × IsFull s v p.0 p.1 Full
