-- The value of a node is its operation's, and a newer graph gives the nodes of an older one the values that they had.
use Rattle.std.proofs.Common.{◌≡◌, ℕ, zero, suc, ◌<◌, Bool, true, false, not, ◌&&◌, List, length, get_or, Option, Some, None, slice_get, refl, sym, ap, ◌∙◌, arith}
use Rattle.std.proofs.lemmas.Option.{slice_get_within, slice_get-get_or}
use Rattle.pair_graph.specs.declared.node.Node.{Node}
use Rattle.pair_graph.specs.declared.node.Node.TheVariants.{Constant, Variable, And, Xor}
use Rattle.pair_graph.specs.Literals.{Parts, false_literal, negated, true_literal}
use Rattle.pair_graph.specs.Graphs.{AreBelow, HasNode, KeepsNodes, IsGraph, exclusive_or, node_value, operation, operation_at, inverted_if, value, value_within}

-- an operation has the same value if its operands have
pub operation-same : (f h : ℕ → Bool) (x : List Bool) (n : ℕ) (m : Node) → AreBelow n m → ((i : ℕ) → i < n → f i ≡ h i)
    → operation f x m ≡ operation h x m
operation-same f h x n Constant low same = refl
operation-same f h x n (Variable v) low same = refl
operation-same f h x n (And a b) low same =
    let p = same a.node low.0 in
    let q = same b.node low.1 in
    λ i. inverted_if a.complemented (p i) && inverted_if b.complemented (q i)
operation-same f h x n (Xor a b) low same =
    let p = same a.node low.0 in
    let q = same b.node low.1 in
    λ i. exclusive_or (inverted_if a.complemented (p i)) (inverted_if b.complemented (q i))

pub operation_at-same : (f h : ℕ → Bool) (x : List Bool) (n : ℕ) (o : Option Node) → ((m : Node) → o ≡ Some m → AreBelow n m)
    → ((i : ℕ) → i < n → f i ≡ h i) → operation_at f x o ≡ operation_at h x o
operation_at-same f h x n None low same = refl
operation_at-same f h x n (Some m) low same = operation-same f h x n m (low m refl) same

module _ (g : List Node) (ordered : (n : ℕ) (m : Node) → slice_get g n ≡ Some m → AreBelow n m) (x : List Bool) where
  -- the number of steps does not matter if it is large enough
  pub value_within-more : (j k n : ℕ) → n < j → n < k → value_within j g x n ≡ value_within k g x n
  unfolding value_within
  value_within-more zero k n a b = absurd (omega arith)
  value_within-more (suc j) zero n a b = absurd (omega arith)
  value_within-more (suc j) (suc k) n a b =
      operation_at-same (value_within j g x) (value_within k g x) x n (slice_get g n) (ordered n)
      (λ i low. value_within-more j k i (omega arith) (omega arith))

  -- the value of a node
  pub node_value-at : (n : ℕ) (m : Node) → slice_get g n ≡ Some m → node_value g x n ≡ operation (node_value g x) x m
  unfolding value_within node_value
  node_value-at n m e =
      ap (operation_at (value_within n g x) x) e ∙
      operation-same (value_within n g x) (node_value g x) x n m (ordered n m e) (λ i low. value_within-more n (suc i) i low (omega arith))

  -- nodes that are kept keep their values
  value_within-keeps : (h : List Node) → KeepsNodes g h → (k n : ℕ) → n < length g → value_within k h x n ≡ value_within k g x n
  unfolding value_within
  value_within-keeps h keeps zero n low = refl
  value_within-keeps h keeps (suc k) n low =
      let m : Node = get_or g n Constant in
      let e : slice_get g n ≡ Some m = slice_get-get_or g n Constant low in
      ap (operation_at (value_within k h x) x) (keeps n m e) ∙
      operation-same (value_within k h x) (value_within k g x) x n m (ordered n m e) (λ i less. value_within-keeps h keeps k i (omega arith)) ∙
      sym (ap (operation_at (value_within k g x) x) e)

  pub node_value-keeps : (h : List Node) → KeepsNodes g h → (n : ℕ) → n < length g → node_value h x n ≡ node_value g x n
  unfolding node_value
  node_value-keeps h keeps n low = value_within-keeps h keeps (suc n) n low

  -- literals of nodes that are kept keep their values
  pub value-keeps : (h : List Node) → KeepsNodes g h → (l : Parts) → HasNode g l → value h x l ≡ value g x l
  value-keeps h keeps l low = ap (inverted_if l.complemented) (node_value-keeps h keeps l.node low)

-- one more complement inverts a value
pub inverted_if-not : (b v : Bool) → inverted_if (not b) v ≡ not (inverted_if b v)
inverted_if-not true true = refl
inverted_if-not true false = refl
inverted_if-not false v = refl

-- a complement has the complemented value
pub value-negated : (g : List Node) (x : List Bool) (l : Parts) → value g x (negated l) ≡ not (value g x l)
value-negated g x l = inverted_if-not l.complemented (node_value g x l.node)

-- the constants
pub value-false : (g : List Node) → IsGraph g → (x : List Bool) → value g x false_literal ≡ false
value-false g sound x = node_value-at g sound.ordered x 0 Constant sound.constant

pub value-true : (g : List Node) → IsGraph g → (x : List Bool) → value g x true_literal ≡ true
value-true g sound x = ap (inverted_if true) (node_value-at g sound.ordered x 0 Constant sound.constant)

-- a graph that keeps the nodes of another has at least as many
pub KeepsNodes-has : (g h : List Node) → KeepsNodes g h → (n : ℕ) → n < length g → n < length h
KeepsNodes-has g h keeps n low = slice_get_within h n _ (keeps n _ (slice_get-get_or g n Constant low))
