-- Shared binary decision diagrams as a set of nodes (Bryant, 1986).
--
-- A graph gives some names a node: a pair of references, low and high. There is one terminal, True, and a reference may
-- have a complement bit. The graph knows nothing of tables, shards or the order of making.
use Rattle.std.specs.Prelude.{◌≡◌, ℕ, suc, zero, ◌<◌, Bool, true, false, cond, List, slice_index_or, Option, Some, None}
use Rattle.dd_store.specs.declared.reference.NodeId.{NodeId}
use Rattle.dd_store.specs.declared.reference.Ref.{Ref}
use Rattle.dd_store.specs.declared.reference.Reference.TheVariants.{False, True, Node}
use Rattle.dd_store.specs.Complements.{is_complement, complemented}

-- the children of a node, low and high
abbrev pub Pair : Type 0
Pair = Ref × Ref

-- the children of each node, low and high; None if no node has the name
abbrev pub Graph : Type 0
Graph = NodeId → Option Pair

-- the bit of a level; levels past the end of the list have false
abbrev pub bit : List Bool → ℕ → Bool
bit x v = slice_index_or x v false

-- the level of a reference in a graph of n levels; a terminal is below all of them
abbrev pub top : ℕ → Ref → ℕ
top n False = n
top n True = n
top n (Node m b) = m.level

-- a reference of the graph
abbrev pub IsRef : Graph → Ref → Type 0
IsRef g False = Unit {0}
IsRef g True = Unit {0}
IsRef g (Node m b) = (p : Pair) × (g m ≡ Some p)

-- the value that at most k steps from r find, complemented once for each complement bit on the way; a path in a graph
-- of n levels has at most n steps
unfoldable pub walk : ℕ → Graph → Ref → List Bool → Bool
walk k g False x = false
walk k g True x = true
walk zero g (Node m b) x = b
walk (suc k) g (Node m b) x =
    complemented b (elim (g m) [ None ↦ false | Some p ↦ walk k g (cond (bit x m.level) p.1 p.0) x ])

-- a graph of n levels is ordered and reduced
pub record IsReduced (n : ℕ) (g : Graph) : Type 0 where
  -- each node is at one of the levels
  pub placed : (m : NodeId) (p : Pair) → g m ≡ Some p → m.level < n
  -- its children are references of the graph
  pub closed : (m : NodeId) (p : Pair) → g m ≡ Some p → IsRef g p.0 × IsRef g p.1
  -- along each edge the level grows
  pub ordered : (m : NodeId) (p : Pair) → g m ≡ Some p → (m.level < top n p.0) × (m.level < top n p.1)
  -- no node has equal children
  pub proper : (m : NodeId) (p : Pair) → g m ≡ Some p → ¬ (p.0 ≡ p.1)
  -- no high edge has a complement bit
  pub regular : (m : NodeId) (p : Pair) → g m ≡ Some p → is_complement p.1 ≡ false
  -- no two nodes of a level have equal children
  pub unique : (l m : NodeId) (p : Pair) → g l ≡ Some p → g m ≡ Some p → l.level ≡ m.level → l ≡ m
