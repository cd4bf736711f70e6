-- The law of windows: if the leaves have the values that they have in the graph, each node above them has its value in
-- the graph. So literals that agree over a cut are equivalent.
use Rattle.std.proofs.Common.{◌≡◌, ℕ, zero, suc, ◌<◌, Bool, List, [], ◌∷◌, map, Option, Some, None, slice_get, refl, sym, ap, ◌∙◌, arith}
use Rattle.std.proofs.lemmas.List.{length-map}
use Rattle.std.proofs.lemmas.Option.{none-some, same_Some}
use Rattle.pair_graph.specs.declared.node.Node.{Node}
use Rattle.pair_graph.specs.Literals.{Parts, negated}
use Rattle.pair_graph.specs.Graphs.{AreEquivalent, AreBelow, IsGraph, bit, node_value, operation, operation_at, inverted_if, value_within}
use Rattle.pair_graph.proofs.Values.{operation-same, operation_at-same, value_within-more}
use Rattle.cut_window.proofs.Places.{place_of-is}
use Rattle.cut_window.specs.declared.finding.Finding.{Finding}
use Rattle.cut_window.specs.declared.finding.Finding.TheVariants.{Equal, Complement, Differ, GivenUp}
use Rattle.cut_window.specs.Windows.{AgreeOver, AreLeafValues, Holds, HoldsOver, leaf_or, node_over, place_of, value_over_within}

-- a leaf has its bit
pub node_over-leaf : (g : List Node) (leaves : List ℕ) (x y : List Bool) (n i : ℕ) → place_of leaves n ≡ Some i → node_over g leaves x y n ≡ bit y i
unfolding value_over_within node_over
node_over-leaf g leaves x y n i e = ap (leaf_or y (operation_at (value_over_within n g leaves x y) x (slice_get g n))) e

module _ (g : List Node) (ordered : (n : ℕ) (m : Node) → slice_get g n ≡ Some m → AreBelow n m) (leaves : List ℕ) (x y : List Bool) where
  -- the number of steps does not matter if it is large enough
  over-more : (j k n : ℕ) → n < j → n < k → value_over_within j g leaves x y n ≡ value_over_within k g leaves x y n
  unfolding value_over_within
  over-more zero k n a b = absurd (omega arith)
  over-more (suc j) zero n a b = absurd (omega arith)
  over-more (suc j) (suc k) n a b =
      ap (λ (v : Bool). leaf_or y v (place_of leaves n)) (operation_at-same (value_over_within j g leaves x y) (value_over_within k g leaves x y) x n (slice_get g n) (ordered n)
      (λ i low. over-more j k i (omega arith) (omega arith)))

  -- any other node has its operation's value
  pub node_over-at : (n : ℕ) (m : Node) → place_of leaves n ≡ None → slice_get g n ≡ Some m
      → node_over g leaves x y n ≡ operation (node_over g leaves x y) x m
  unfolding value_over_within node_over
  node_over-at n m no_leaf e =
      ap (leaf_or y (operation_at (value_over_within n g leaves x y) x (slice_get g n))) no_leaf ∙
      ap (operation_at (value_over_within n g leaves x y) x) e ∙
      operation-same (value_over_within n g leaves x y) (node_over g leaves x y) x n m (ordered n m e) (λ i low. over-more n (suc i) i low (omega arith))

  -- ---- if the leaves have their own values, each node has its own
  -- the value of one node, if those below have theirs
  leaf_bits-step : AreLeafValues g leaves x y → (k n : ℕ) → n < suc k → ((i : ℕ) → i < n → value_over_within k g leaves x y i ≡ value_within k g x i)
      → (o : Option ℕ) → place_of leaves n ≡ o → value_over_within (suc k) g leaves x y n ≡ value_within (suc k) g x n
  unfolding value_within value_over_within node_value
  leaf_bits-step leaf_bits k n low below None e =
      ap (leaf_or y (operation_at (value_over_within k g leaves x y) x (slice_get g n))) e ∙
      operation_at-same (value_over_within k g leaves x y) (value_within k g x) x n (slice_get g n) (ordered n) below
  leaf_bits-step leaf_bits k n low below (Some i) e =
      ap (leaf_or y (operation_at (value_over_within k g leaves x y) x (slice_get g n))) e ∙
      leaf_bits i n (place_of-is leaves n i e) ∙
      value_within-more g ordered x (suc n) (suc k) n (omega arith) low

  value_over_within-leaf_bits : AreLeafValues g leaves x y → (k n : ℕ) → n < k → value_over_within k g leaves x y n ≡ value_within k g x n
  value_over_within-leaf_bits leaf_bits zero n low = absurd (omega arith)
  value_over_within-leaf_bits leaf_bits (suc k) n low =
      leaf_bits-step leaf_bits k n low (λ i less. value_over_within-leaf_bits leaf_bits k i (omega arith)) (place_of leaves n) refl

  pub node_over-leaf_bits : AreLeafValues g leaves x y → (n : ℕ) → node_over g leaves x y n ≡ node_value g x n
  unfolding node_over node_value
  node_over-leaf_bits leaf_bits n = value_over_within-leaf_bits leaf_bits (suc n) n (omega arith)

-- the values of the leaves at x
abbrev pub leaf_values : List Node → List Bool → List ℕ → List Bool
leaf_values g x leaves = map (node_value g x) leaves

leaf_values-leaf_bits : (g : List Node) (x : List Bool) (leaves : List ℕ) → AreLeafValues g leaves x (leaf_values g x leaves)
leaf_values-leaf_bits g x [] i n e = absurd (none-some n e)
leaf_values-leaf_bits g x (l ∷ leaves) zero n e = ap (node_value g x) (same_Some l n e)
leaf_values-leaf_bits g x (l ∷ leaves) (suc i) n e = leaf_values-leaf_bits g x leaves i n e

-- literals that agree over a cut are equivalent
pub equivalent_from_over : (g : List Node) → IsGraph g → (leaves : List ℕ) (a b : Parts) → AgreeOver g leaves a b → AreEquivalent g a b
equivalent_from_over g sound leaves a b agree x =
    let y = leaf_values g x leaves in
    let leaf_bits : (n : ℕ) → node_over g leaves x y n ≡ node_value g x n =
    node_over-leaf_bits g sound.ordered leaves x y (leaf_values-leaf_bits g x leaves) in
    sym (ap (inverted_if a.complemented) (leaf_bits a.node)) ∙ agree x y (length-map leaves (node_value g x)) ∙ ap (inverted_if b.complemented) (leaf_bits b.node)

pub holds_from_over : (g : List Node) → IsGraph g → (leaves : List ℕ) (a b : Parts) (v : Finding) → HoldsOver g leaves a b v → Holds g a b v
holds_from_over g sound leaves a b Equal agree = equivalent_from_over g sound leaves a b agree
holds_from_over g sound leaves a b Complement agree = equivalent_from_over g sound leaves a (negated b) agree
holds_from_over g sound leaves a b (Differ bits) differ = tt
holds_from_over g sound leaves a b GivenUp none = tt
