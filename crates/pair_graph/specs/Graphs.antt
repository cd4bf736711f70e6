-- Graphs of And and Xor, and the values of their literals.
--
-- A graph is the list of its nodes; a node's number is its place. Node 0 is the constant, which is 0, and the operands of each
-- node have lower numbers, so that values are found by recursion on numbers.
use Rattle.std.specs.Prelude.{◌≡◌, ℕ, zero, suc, ◌<◌, ◌≤◌, ◌^◌, Bool, false, cond, not, ◌&&◌, List, length, slice_get, slice_index_or}
use Rattle.std.specs.Prelude.{Option, Some, None}
use Rattle.pair_graph.specs.declared.node.Node.{Node}
use Rattle.pair_graph.specs.declared.node.Node.TheVariants.{Constant, Variable, And, Xor}
use Rattle.pair_graph.specs.Literals.{Parts}

-- a value, inverted if b is true
abbrev pub inverted_if : Bool → Bool → Bool
inverted_if b v = cond b (not v) v

-- exactly one of two values is 1
abbrev pub exclusive_or : Bool → Bool → Bool
exclusive_or a b = cond a (not b) b

-- the bit of a variable, 0 if the assignment has none
abbrev pub bit : List Bool → ℕ → Bool
bit x v = slice_index_or x v false

-- the value of a literal, if f gives the values of nodes
abbrev pub literal_value : (ℕ → Bool) → Parts → Bool
literal_value f l = inverted_if l.complemented (f l.node)

-- the value of a node, if f gives those of its operands
abbrev pub operation : (ℕ → Bool) → List Bool → Node → Bool
operation f x Constant = false
operation f x (Variable v) = bit x v
operation f x (And a b) = literal_value f a && literal_value f b
operation f x (Xor a b) = exclusive_or (literal_value f a) (literal_value f b)

-- the value of a node, or 0 if there is none
abbrev pub operation_at : (ℕ → Bool) → List Bool → Option Node → Bool
operation_at f x None = false
operation_at f x (Some m) = operation f x m

-- the value of node n if it is found in at most k steps down, otherwise 0
unfoldable pub value_within : ℕ → List Node → List Bool → ℕ → Bool
value_within zero g x n = false
value_within (suc k) g x n = operation_at (value_within k g x) x (slice_get g n)

-- the value of a node at an assignment: operands have lower numbers, so n + 1 steps suffice
unfoldable pub node_value : List Node → List Bool → ℕ → Bool
node_value g x n = value_within (suc n) g x n

-- the value of a literal at an assignment
abbrev pub value : List Node → List Bool → Parts → Bool
value g x l = literal_value (node_value g x) l

-- the node's operands have numbers below n
abbrev pub AreBelow : ℕ → Node → Type 0
AreBelow n Constant = Unit {0}
AreBelow n (Variable v) = Unit {0}
AreBelow n (And a b) = (a.node < n) × (b.node < n)
AreBelow n (Xor a b) = (a.node < n) × (b.node < n)

-- the invariant of every graph
pub record IsGraph (g : List Node) : Type 0 where
  pub constant : slice_get g 0 ≡ Some Constant
  pub ordered : (n : ℕ) (m : Node) → slice_get g n ≡ Some m → AreBelow n m
  pub few : length g ≤ 2 ^ 31

-- the graph has the literal's node
abbrev pub HasNode : List Node → Parts → Type 0
HasNode g l = l.node < length g

-- the newer graph has each node of the older one, with the same number
abbrev pub KeepsNodes : List Node → List Node → Type 0
KeepsNodes old new = (n : ℕ) (m : Node) → slice_get old n ≡ Some m → slice_get new n ≡ Some m

-- two literals have the same value at every assignment
abbrev pub AreEquivalent : List Node → Parts → Parts → Type 0
AreEquivalent g a b = (x : List Bool) → value g x a ≡ value g x b
