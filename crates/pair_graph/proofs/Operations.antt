-- The values of new nodes.
use Rattle.std.proofs.Common.{◌≡◌, ℕ, Bool, true, false, not, ◌&&◌, List, Some, slice_get, refl, sym, ap, ◌∙◌, ◌⊎◌, inl, inr}
use Rattle.pair_graph.specs.declared.node.Node.{Node}
use Rattle.pair_graph.specs.declared.node.Node.TheVariants.{Variable, And, Xor}
use Rattle.pair_graph.specs.Literals.{Parts, positive_of}
use Rattle.pair_graph.specs.Graphs.{HasNode, KeepsNodes, IsGraph, bit, exclusive_or, node_value, inverted_if, value}
use Rattle.pair_graph.proofs.Values.{node_value-at, value-keeps}

-- the literal of a node, complemented if b is true
abbrev pub literal_of : ℕ → Bool → Parts
literal_of n b = record { node = n; complemented = b }

pub value-variable : (g : List Node) → IsGraph g → (n v : ℕ) → slice_get g n ≡ Some (Variable v) → (x : List Bool)
    → value g x (literal_of n false) ≡ bit x v
value-variable g sound n v e x = node_value-at g sound.ordered x n (Variable v) e

and_comm : (a b : Bool) → (a && b) ≡ (b && a)
and_comm true true = refl
and_comm true false = refl
and_comm false true = refl
and_comm false false = refl

exclusive_comm : (a b : Bool) → exclusive_or a b ≡ exclusive_or b a
exclusive_comm true true = refl
exclusive_comm true false = refl
exclusive_comm false true = refl
exclusive_comm false false = refl

-- the complements of the operands of an Xor become a complement of the Xor
exclusive_or-complements : (s t a b : Bool) → inverted_if (exclusive_or s t) (exclusive_or a b) ≡ exclusive_or (inverted_if s a) (inverted_if t b)
exclusive_or-complements true true true true = refl
exclusive_or-complements true true true false = refl
exclusive_or-complements true true false true = refl
exclusive_or-complements true true false false = refl
exclusive_or-complements true false true true = refl
exclusive_or-complements true false true false = refl
exclusive_or-complements true false false true = refl
exclusive_or-complements true false false false = refl
exclusive_or-complements false true true true = refl
exclusive_or-complements false true true false = refl
exclusive_or-complements false true false true = refl
exclusive_or-complements false true false false = refl
exclusive_or-complements false false true true = refl
exclusive_or-complements false false true false = refl
exclusive_or-complements false false false true = refl
exclusive_or-complements false false false false = refl

module _ (old new : List Node) (was : IsGraph old) (sound : IsGraph new) (keeps : KeepsNodes old new) (x : List Bool) where
  kept : (l : Parts) → HasNode old l → value new x l ≡ value old x l
  kept l low = value-keeps old was.ordered x new keeps l low

  -- the node of an And of two older literals, in either order
  pub value-and : (a b : Parts) (p : Parts × Parts) (n : ℕ) → HasNode old a → HasNode old b → (p ≡ (a, b)) ⊎ (p ≡ (b, a))
      → slice_get new n ≡ Some (And p.0 p.1) → value new x (literal_of n false) ≡ (value old x a && value old x b)
  value-and a b p n low_a low_b order e =
      node_value-at new sound.ordered x n (And p.0 p.1) e ∙ (elim order [
        | inl same ↦ ap (λ (q : Parts × Parts). value new x q.0 && value new x q.1) same
        | inr other ↦ ap (λ (q : Parts × Parts). value new x q.0 && value new x q.1) other ∙ and_comm (value new x b) (value new x a)
      ]) ∙ (let s = kept a low_a in let t = kept b low_b in λ i. s i && t i)

  -- the node of an Xor of two older literals, neither of them complemented
  pub value-xor : (a b : Parts) (positive_a positive_b : Parts) (p : Parts × Parts) (n : ℕ) (complemented : Bool) → HasNode old a → HasNode old b
      → positive_a ≡ positive_of a → positive_b ≡ positive_of b → (p ≡ (positive_a, positive_b)) ⊎ (p ≡ (positive_b, positive_a))
      → slice_get new n ≡ Some (Xor p.0 p.1) → complemented ≡ exclusive_or a.complemented b.complemented
      → value new x (literal_of n complemented) ≡ exclusive_or (value old x a) (value old x b)
  value-xor a b positive_a positive_b p n complemented low_a low_b is_a is_b order e m =
      ap (λ (s : Bool). inverted_if s (node_value new x n)) m ∙
      ap (inverted_if (exclusive_or a.complemented b.complemented)) (node_value-at new sound.ordered x n (Xor p.0 p.1) e ∙ (elim order [
        | inl same ↦ ap (λ (q : Parts × Parts). exclusive_or (value new x q.0) (value new x q.1)) same
        | inr other ↦ ap (λ (q : Parts × Parts). exclusive_or (value new x q.0) (value new x q.1)) other ∙
            exclusive_comm (value new x positive_b) (value new x positive_a)
      ]) ∙ (λ i. exclusive_or (value new x (is_a i)) (value new x (is_b i)))) ∙
      exclusive_or-complements a.complemented b.complemented (node_value new x a.node) (node_value new x b.node) ∙
      (let s = kept a low_a in let t = kept b low_b in λ i. exclusive_or (s i) (t i))

-- a literal that is the complement of an And
pub value-nand : (g : List Node) → IsGraph g → (x : List Bool) (l a b : Parts) (n : ℕ) → n ≡ l.node → l.complemented ≡ true
    → slice_get g n ≡ Some (And a b) → value g x l ≡ not (value g x a && value g x b)
value-nand g sound x l a b n is complemented e =
    ap (λ (c : Bool). inverted_if c (node_value g x l.node)) complemented ∙
    ap not (ap (node_value g x) (sym is) ∙ node_value-at g sound.ordered x n (And a b) e)

xor-nands : (p q : Bool) → exclusive_or p q ≡ (not (p && q) && not (not p && not q))
xor-nands true true = refl
xor-nands true false = refl
xor-nands false true = refl
xor-nands false false = refl

-- the And of NOT (p AND q) and NOT (NOT p AND NOT q) is the Xor of p and q
pub value-xor_of_nands : (p q r s a b : Bool) → a ≡ not (p && q) → b ≡ not (r && s) → r ≡ not p → s ≡ not q → exclusive_or p q ≡ (a && b)
value-xor_of_nands p q r s a b is_a is_b is_r is_s =
    xor-nands p q ∙ sym ((λ i. is_a i && is_b i) ∙ (λ i. not (p && q) && not (is_r i && is_s i)))
