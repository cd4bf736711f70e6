-- A store as its users see it: by what its references refer to. Nothing here knows of shards or names.
use Rattle.std.specs.Prelude.{◌≡◌, ◌≢◌, ℕ, ◌≤◌, ◌⊎◌, Bool, true, false, not, List, length, Option, Some, None}
use Rattle.dd_store.specs.declared.reference.NodeId.{NodeId}
use Rattle.dd_store.specs.declared.reference.Ref.{Ref}
use Rattle.dd_store.specs.declared.reference.Reference.TheVariants.{False, True, Node}
use Rattle.dd_store.specs.declared.StoreFault.{StoreFault}
use Rattle.dd_store.specs.declared.StoreFault.TheVariants.{Full, OutOfMemory}
use Rattle.dd_store.specs.Graph.{Pair, IsRef, top as level_of}
use Rattle.dd_store.specs.Nodes.{Nodes, node as node_at, children, count_of, den}
use Rattle.dd_store.specs.Parts.{Part}
use Rattle.dd_store.specs.Parts.Part.{leaf, node}

-- what the name of a node refers to
abbrev pub part_of : NodeId → Option Pair → Part Ref
part_of m None = leaf false
part_of m (Some p) = node m.level p.0 p.1

-- what a reference refers to
abbrev pub part : Nodes → Ref → Part Ref
part S False = leaf false
part S True = leaf true
part S (Node m b) = part_of m (children S (Node m b))

-- the references of the store
abbrev pub Has : Nodes → Ref → Type 0
Has S r = IsRef (node_at S) r

-- the level of a reference; a terminal is below all levels
abbrev pub top : Nodes → Ref → ℕ
top S r = level_of S.levels r

-- new has the references of old, and they refer to the same
pub record Keeps (old new : Nodes) : Type 0 where
  pub levels : new.levels ≡ old.levels
  pub limit : new.limit ≡ old.limit
  pub has : (r : Ref) → Has old r → Has new r
  pub part_is : (r : Ref) → Has old r → part new r ≡ part old r

-- no node of the level has these children
abbrev pub IsAbsent : Nodes → ℕ → Ref → Ref → Type 0
IsAbsent S level low high = (r : Ref) → Has S r → part S r ≢ node level low high

-- r is the node of the level that has these children
abbrev pub IsNode : Nodes → ℕ → Ref → Ref → Ref → Type 0
IsNode S level low high r = Has S r × (part S r ≡ node level low high)

-- a and b denote a function and its complement
abbrev pub AreOpposite : Nodes → Ref → Ref → Type 0
AreOpposite S a b = (x : List Bool) → length x ≡ S.levels → den S a x ≡ not (den S b x)

-- a and b are the same reference, or of one level and complements of each other; in a store these have one node
abbrev pub IsOneNode : Nodes → Ref → Ref → Type 0
IsOneNode S a b = (a ≡ b) ⊎ ((top S a ≡ top S b) × AreOpposite S a b)

-- r is the node of two children, or both of them if they are equal, and new has no other new nodes
pub record IsMade (old new : Nodes) (level : ℕ) (low high r : Ref) : Type 0 where
  pub keeps : Keeps old new
  pub has : Has new r
  pub is : ((low ≡ high) × (r ≡ low)) ⊎ ((low ≢ high) × (part new r ≡ node level low high))
  pub no_other : (m : Ref) → Has new m → Has old m ⊎ ((low ≢ high) × IsOneNode new m r)

-- the cause of a refused node: Full means that the limit is reached and a new node is needed
abbrev pub IsFull : Nodes → ℕ → Ref → Ref → StoreFault → Type 0
IsFull old level low high OutOfMemory = Unit {0}
IsFull old level low high Full = (old.limit ≤ count_of old) × (low ≢ high) × IsAbsent old level low high
