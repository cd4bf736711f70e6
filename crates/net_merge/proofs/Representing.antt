-- Representatives: in newer graphs, and what they say of literals.
use Rattle.std.proofs.Common.{◌≡◌, ◌<◌, ◌≤◌, Bool, true, false, not, List, length, get_or, refl, sym, ap, subst, ◌∙◌, arith, inl, inr, unwrap_or}
use Rattle.std.proofs.lemmas.Bool.{cases_lt}
use Rattle.std.proofs.lemmas.Option.{slice_get-get_or, slice_get_past, slice_get_within}
use Rattle.pair_graph.specs.declared.node.Node.{Node}
use Rattle.pair_graph.specs.Literals.{Parts, complemented_if, node_literal}
use Rattle.pair_graph.specs.Graphs.{AreEquivalent, HasNode, IsGraph, KeepsNodes, value}
use Rattle.pair_graph.proofs.Values.{KeepsNodes-has, value-keeps, value-negated}
use Rattle.net_merge.specs.Merging.{AreRepresentatives, representative_of}

pub AreEquivalent-trans : (g : List Node) (a b c : Parts) → AreEquivalent g a b → AreEquivalent g b c → AreEquivalent g a c
AreEquivalent-trans g a b c one two x = one x ∙ two x

-- equivalent literals are so in a newer graph
pub AreEquivalent-keeps : (g h : List Node) → IsGraph g → KeepsNodes g h → (a b : Parts) → HasNode g a → HasNode g b → AreEquivalent g a b
    → AreEquivalent h a b
AreEquivalent-keeps g h sound keeps a b has_a has_b equivalent x =
    value-keeps g sound.ordered x h keeps a has_a ∙ equivalent x ∙ sym (value-keeps g sound.ordered x h keeps b has_b)

length-keeps : (g h : List Node) → KeepsNodes g h → length g ≤ length h
length-keeps g h keeps = elim (cases_lt (length h) (length g)) [
  | inl less ↦ absurd (let low : length h < length h = KeepsNodes-has g h keeps (length h) less in omega arith)
  | inr no_less ↦ no_less
]

pub AreRepresentatives-keeps : (g h : List Node) (representatives : List Parts) → IsGraph g → KeepsNodes g h → AreRepresentatives g representatives
    → AreRepresentatives h representatives
AreRepresentatives-keeps g h representatives sound keeps old = record {
  few = (let longer = length-keeps g h keeps in omega (arith, old.few));
  below = old.below;
  equivalent = λ n l e.
      let low : n < length representatives = slice_get_within representatives n l e in
      let has_n : HasNode g (node_literal n) = omega (arith, old.few) in
      let has_l : HasNode g l = omega (arith, old.few, old.below n l e) in
      AreEquivalent-keeps g h sound keeps (node_literal n) l has_n has_l (old.equivalent n l e);
}

-- a literal is its node's, complemented or not
pub of_node : (l : Parts) → complemented_if l.complemented (node_literal l.node) ≡ l
of_node l = by_bit l.complemented
  where
    by_bit : (b : Bool) → complemented_if b (node_literal l.node) ≡ record { node = l.node; complemented = b }
    by_bit true = refl
    by_bit false = refl

-- equivalence remains if both are complemented
AreEquivalent-complemented : (g : List Node) (b : Bool) (k l : Parts) → AreEquivalent g k l → AreEquivalent g (complemented_if b k) (complemented_if b l)
AreEquivalent-complemented g true k l equivalent x = value-negated g x k ∙ ap not (equivalent x) ∙ sym (value-negated g x l)
AreEquivalent-complemented g false k l equivalent x = equivalent x

-- a representative is equivalent to its literal
pub representative-equivalent : (g : List Node) (representatives : List Parts) (l : Parts) → AreRepresentatives g representatives
    → AreEquivalent g l (representative_of representatives l)
representative-equivalent g representatives l are x = elim (cases_lt l.node (length representatives)) [
  | inl low ↦ (
      let e = slice_get-get_or representatives l.node (node_literal l.node) low in
      let s : Parts = get_or representatives l.node (node_literal l.node) in
      sym (ap (value g x) (of_node l)) ∙ AreEquivalent-complemented g l.complemented (node_literal l.node) s (are.equivalent l.node s e) x ∙
      sym (ap (λ o. value g x (complemented_if l.complemented (unwrap_or o (node_literal l.node)))) e))
  | inr past ↦ (
      let e = slice_get_past representatives l.node past in
      sym (ap (λ o. value g x (complemented_if l.complemented (unwrap_or o (node_literal l.node)))) e ∙ ap (value g x) (of_node l)))
]

pub representative-past : (representatives : List Parts) (l : Parts) → length representatives ≤ l.node → representative_of representatives l ≡ l
representative-past representatives l past =
    ap (λ o. complemented_if l.complemented (unwrap_or o (node_literal l.node))) (slice_get_past representatives l.node past) ∙ of_node l

complemented-node : (b : Bool) (l : Parts) → (complemented_if b l).node ≡ l.node
complemented-node true l = refl
complemented-node false l = refl

-- a representative is of the graph, if its literal is
pub representative-has : (g : List Node) (representatives : List Parts) (l : Parts) → AreRepresentatives g representatives → HasNode g l
    → HasNode g (representative_of representatives l)
representative-has g representatives l are has = elim (cases_lt l.node (length representatives)) [
  | inl low ↦ (
      let s : Parts = get_or representatives l.node (node_literal l.node) in
      let e = slice_get-get_or representatives l.node (node_literal l.node) low in
      let there : s.node < length g = omega (arith, has, are.below l.node s e) in
      subst (λ o. HasNode g (complemented_if l.complemented (unwrap_or o (node_literal l.node)))) (sym e)
      (subst (λ n. n < length g) (sym (complemented-node l.complemented s)) there))
  | inr past ↦ subst (HasNode g) (sym (representative-past representatives l past)) has
]
