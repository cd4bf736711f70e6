-- Values over a cut, whose leaves are taken as free variables.
use Rattle.std.specs.Prelude.{◌≡◌, ◌≢◌, ℕ, zero, suc, ◌==◌, Bool, false, List, length, slice_get, Option, Some, None}
use Rattle.std.specs.List.{position_from}
use Rattle.pair_graph.specs.declared.node.Node.{Node}
use Rattle.pair_graph.specs.Literals.{Parts, negated}
use Rattle.pair_graph.specs.Graphs.{AreEquivalent, bit, literal_value, node_value, operation_at}
use Rattle.cut_window.specs.declared.finding.Finding.{Finding}
use Rattle.cut_window.specs.declared.finding.Finding.TheVariants.{Equal, Complement, Differ, GivenUp}

-- the place of a node among the leaves
abbrev pub place_of : List ℕ → ℕ → Option ℕ
place_of leaves n = position_from (λ l. l == n) 0 leaves

-- the value of a node: for the leaf at a place its bit of y, for any other node b
abbrev pub leaf_or : List Bool → Bool → Option ℕ → Bool
leaf_or y b None = b
leaf_or y b (Some i) = bit y i

-- the value of node n if at most k steps down find it, with the bits of y for leaves and the bits of x for other
-- variables
unfoldable pub value_over_within : ℕ → List Node → List ℕ → List Bool → List Bool → ℕ → Bool
value_over_within zero g leaves x y n = false
value_over_within (suc k) g leaves x y n = leaf_or y (operation_at (value_over_within k g leaves x y) x (slice_get g n)) (place_of leaves n)

-- the value of a node over the leaves
unfoldable pub node_over : List Node → List ℕ → List Bool → List Bool → ℕ → Bool
node_over g leaves x y n = value_over_within (suc n) g leaves x y n

-- the value of a literal over the leaves
abbrev pub value_over : List Node → List ℕ → List Bool → List Bool → Parts → Bool
value_over g leaves x y l = literal_value (node_over g leaves x y) l

-- two literals have the same value over the leaves, whatever bits these have
abbrev pub AgreeOver : List Node → List ℕ → Parts → Parts → Type 0
AgreeOver g leaves a b = (x y : List Bool) → length y ≡ length leaves → value_over g leaves x y a ≡ value_over g leaves x y b

-- two literals have different values if the leaves have these bits
pub record DifferOver (g : List Node) (leaves : List ℕ) (a b : Parts) (y : List Bool) : Type 0 where
  pub each : length y ≡ length leaves
  pub differ : (x : List Bool) → value_over g leaves x y a ≢ value_over g leaves x y b

-- the leaves have the bits that they have in the graph at x
abbrev pub AreLeafValues : List Node → List ℕ → List Bool → List Bool → Type 0
AreLeafValues g leaves x y = (i n : ℕ) → slice_get leaves i ≡ Some n → bit y i ≡ node_value g x n

-- what a finding about two literals means over the leaves
abbrev pub HoldsOver : List Node → List ℕ → Parts → Parts → Finding → Type 0
HoldsOver g leaves a b Equal = AgreeOver g leaves a b
HoldsOver g leaves a b Complement = AgreeOver g leaves a (negated b)
HoldsOver g leaves a b (Differ bits) = DifferOver g leaves a b bits.items
HoldsOver g leaves a b GivenUp = Unit {0}

-- what a finding means at every assignment of the variables: a difference over the leaves means nothing there
abbrev pub Holds : List Node → Parts → Parts → Finding → Type 0
Holds g a b Equal = AreEquivalent g a b
Holds g a b Complement = AreEquivalent g a (negated b)
Holds g a b (Differ bits) = Unit {0}
Holds g a b GivenUp = Unit {0}
