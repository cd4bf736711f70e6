-- What contracts see of a store: its number of levels, the number of nodes that is allowed, and the children of
-- the nodes of each shard, in the order in which they were made.
use Rattle.std.specs.Prelude.{◌≡◌, ℕ, ◌+◌, ◌*◌, ◌<◌, ◌≤◌, ◌^◌, Bool, cond, nat_lt, List, [], ◌∷◌, ◌++◌, length, slice_index_or, slice_get}
use Rattle.std.specs.Prelude.{slice_set, replicate, unwrap_or, nat_eq, Option, Some, None, Result, Ok, Err, ◌⊎◌, ◌↔◌}
use Rattle.std.specs.List.{sum_by}
use Rattle.std.specs.Option.{option_map}
use Rattle.dd_store.specs.declared.reference.NodeId.{NodeId}
use Rattle.dd_store.specs.declared.reference.Ref.{Ref}
use Rattle.dd_store.specs.declared.reference.Reference.TheVariants.{False, True, Node}
use Rattle.dd_store.specs.declared.StoreFault.{StoreFault}
use Rattle.dd_store.specs.declared.StoreFault.TheVariants.{Full, OutOfMemory}
use Rattle.dd_store.specs.Graph.{Pair, Graph, bit, top, IsRef, walk, IsReduced}
use Rattle.dd_store.specs.Hashes.{shard_of_pair}
use Rattle.dd_store.specs.Complements.{is_complement, complement_both, regular_pair}
use Rattle.dd_store.specs.Functions.{Agree}

-- `shards` has the 16 shards of level 0, then those of level 1, and so on
pub record Nodes : Type 0 where
  pub levels : ℕ
  pub limit : ℕ
  pub shards : List (List (Ref × Ref))

-- the children of the nodes in shard s of level v
abbrev pub shard_at : Nodes → ℕ → ℕ → List Pair
shard_at S v s = slice_index_or S.shards (16 * v + s) []

-- the store as a graph: a name has the pair that is in its shard at its index
unfoldable pub node : Nodes → Graph
node S m = cond (nat_lt m.shard 16) (slice_get (shard_at S m.level m.shard) m.index) None

-- how many nodes there are
abbrev pub count_of : Nodes → ℕ
count_of S = sum_by (λ (ps : List Pair). length ps) S.shards

-- what a reference of the store denotes at an assignment
abbrev pub den : Nodes → Ref → List Bool → Bool
den S r x = walk S.levels (node S) r x

-- the invariant of every store
pub record IsSound (S : Nodes) : Type 0 where
  -- the nodes are ordered and reduced
  pub reduced : IsReduced S.levels (node S)
  -- the shard of a node follows from its children
  pub sharded : (m : NodeId) (p : Pair) → node S m ≡ Some p → m.shard ≡ shard_of_pair p.0 p.1
  -- there are 16 shards for each level, and no more levels and nodes than names can have
  pub shaped : length S.shards ≡ 16 * S.levels
  pub few_levels : S.levels ≤ 4096
  pub small_limit : S.limit < 2 ^ 32
  pub within_limit : (i : ℕ) → length (slice_index_or S.shards i []) ≤ S.limit

-- T has the levels and the limit of S, and its nodes under the same names
pub record Extends (S T : Nodes) : Type 0 where
  pub levels : T.levels ≡ S.levels
  pub limit : T.limit ≡ S.limit
  pub nodes : (m : NodeId) (p : Pair) → node S m ≡ Some p → node T m ≡ Some p

-- the children of a reference, those of its node, complemented if it has a complement bit; a terminal has none
abbrev pub children : Nodes → Ref → Option Pair
children S False = None
children S True = None
children S (Node m b) = option_map (complement_both b) (node S m)

-- the low child of a reference; that of a terminal is the terminal
abbrev pub low_of : Nodes → Ref → Ref
low_of S r = unwrap_or (option_map (λ (p : Pair). p.0) (children S r)) r

-- the high child of a reference; that of a terminal is the terminal
abbrev pub high_of : Nodes → Ref → Ref
high_of S r = unwrap_or (option_map (λ (p : Pair). p.1) (children S r)) r

-- the cofactor of a reference for a bit of level v, if it is not above v
abbrev pub cofactor_of : Nodes → Ref → ℕ → Bool → Ref
cofactor_of S r v b = cond (nat_eq (top S.levels r) v) (cond b (high_of S r) (low_of S r)) r

-- r denotes lo if the bit of level v is false, and hi if it is true
abbrev pub IsBranch : Nodes → ℕ → Ref → Ref → Ref → Type 0
IsBranch S v lo hi r = (x : List Bool) → den S r x ≡ cond (bit x v) (den S hi x) (den S lo x)

-- a and b denote one function of n bits
abbrev pub IsSameFunction : Nodes → Ref → Ref → Type 0
IsSameFunction S a b = Agree S.levels (den S a) (den S b)

-- two references of a store are equal exactly if they denote the same function (Bryant, 1986)
abbrev pub IsCanonical : Nodes → Type 0
IsCanonical S = (a b : Ref) → IsRef (node S) a → IsRef (node S) b → (a ≡ b) ↔ IsSameFunction S a b

-- r is the diagram of f: a reference of the store that has the value of f at every assignment of n bits
abbrev pub IsDiagram : Nodes → Ref → (List Bool → Bool) → Type 0
IsDiagram S r f = IsRef (node S) r × Agree S.levels (den S r) f

-- the store with n levels and this limit that has no nodes
abbrev pub empty_nodes : ℕ → ℕ → Nodes
empty_nodes n limit = record { levels = n; limit = limit; shards = replicate (16 * n) [] }

-- r is a node of level v with these children
abbrev pub IsNodeOf : Nodes → ℕ → Ref → Ref → Ref → Type 0
IsNodeOf S v lo hi r = (top S.levels r ≡ v) × (children S r ≡ Some (lo, hi))

-- r needs no new node: it is both children, or a node of the level that has them
abbrev pub IsThere : Nodes → ℕ → Ref → Ref → Ref → Type 0
IsThere S v lo hi r =
    ((lo ≡ hi) × (r ≡ lo)) ⊎ ((lo ≡ hi → ⊥) × IsNodeOf S v lo hi r)

-- no reference of level v has these children
abbrev pub IsAbsent : Nodes → ℕ → Ref → Ref → Type 0
IsAbsent S v lo hi = (r : Ref) → IsNodeOf S v lo hi r → ⊥

-- the result of `find`
abbrev pub IsFound : Nodes → ℕ → Ref → Ref → Option Ref → Type 0
IsFound S v lo hi None = IsAbsent S v lo hi
IsFound S v lo hi (Some r) = IsNodeOf S v lo hi r

-- a new node is needed
abbrev pub IsNeeded : Nodes → ℕ → Ref → Ref → Type 0
IsNeeded S v lo hi = (lo ≡ hi → ⊥) × IsAbsent S v lo hi

-- the name that a new node with these children gets; the second has no complement bit
abbrev pub fresh : Nodes → ℕ → Ref → Ref → NodeId
fresh S v lo hi =
    record { level = v; shard = shard_of_pair lo hi; index = length (shard_at S v (shard_of_pair lo hi)) }

-- the store with a new node, last in its shard
unfoldable pub with_node : Nodes → ℕ → Ref → Ref → Nodes
with_node S v lo hi =
    let s = shard_of_pair lo hi in
    record S { shards = slice_set S.shards (16 * v + s) (shard_at S v s ++ (lo, hi) ∷ []) }

-- the result of `make`: a reference that needs no new node, or exactly one new node, with a complement bit if it has
-- the complements of the children, or a refusal that changes nothing
abbrev pub Makes : Nodes → ℕ → Ref → Ref → Result Ref StoreFault → Nodes → Type 0
Makes S v lo hi (Ok r) T =
    (IsThere S v lo hi r × (T ≡ S))
    ⊎ (IsNeeded S v lo hi × (count_of S < S.limit) × (r ≡ Node (fresh S v (regular_pair lo hi).0 (regular_pair lo hi).1) (is_complement hi))
    × (T ≡ with_node S v (regular_pair lo hi).0 (regular_pair lo hi).1))
Makes S v lo hi (Err Full) T = IsNeeded S v lo hi × (S.limit ≤ count_of S) × (T ≡ S)
Makes S v lo hi (Err OutOfMemory) T = IsNeeded S v lo hi × (count_of S < S.limit) × (T ≡ S)

-- the invariant of a store's fields: the nodes are sound, and `count` is their number
pub record IsStore (S : Nodes) (count : ℕ) : Type 0 where
  pub sound : IsSound S
  pub counted : count ≡ count_of S
