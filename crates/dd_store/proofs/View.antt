-- A store's model is a store of references and their parts, for all lemmas about such stores.
use Rattle.std.proofs.Common.{◌≡◌, ◌≢◌, ℕ, ◌⊎◌, inl, inr, Bool, true, false, cond, nat_eq, List, get_or, Some, refl, sym, ◌∙◌, ap, subst}
use Rattle.std.specs.Prelude.{Result, Ok, Err, IfOk, IfErr}
use Rattle.dd_store.specs.declared.reference.NodeId.{NodeId}
use Rattle.dd_store.specs.declared.reference.Ref.{Ref}
use Rattle.dd_store.specs.declared.reference.Reference.TheVariants.{False, True, Node}
use Rattle.dd_store.specs.declared.StoreFault.{StoreFault}
use Rattle.dd_store.specs.declared.StoreFault.TheVariants.{Full, OutOfMemory}
use Rattle.dd_store.specs.Graph.{Pair, bit}
use Rattle.dd_store.specs.Graph as graph
use Rattle.dd_store.specs.Complements.{is_complement, negate_of, complement_by, regular_pair}
use Rattle.dd_store.specs.Functions.{Agree}
use Rattle.dd_store.specs.Nodes.{Nodes, node as node_at, children, den, cofactor_of, IsNodeOf, IsSound, Extends, Makes, IsThere, with_node, fresh}
use Rattle.dd_store.specs.Nodes as nodes
use Rattle.dd_store.specs.Parts.{Part, top_of, step_of, AreParts, IsDenotation}
use Rattle.dd_store.specs.Parts.Part.{node}
use Rattle.dd_store.specs.View.{part_of, part, Has, top, Keeps, IsAbsent, AreOpposite, IsOneNode, IsMade, IsFull}
pub use Rattle.dd_store.proofs.Canonical.{same_ref}
use Rattle.dd_store.proofs.Canonical.{graph_part-node, node_of_part, top-graph_part, graph_parts, graph_denotes, canonical}
use Rattle.dd_store.proofs.Complements.{top-complement_by, IsRef-complement_by, den-negate}
use Rattle.dd_store.proofs.Places.{none_some}
use Rattle.dd_store.proofs.Storing.{IsRef-extends, CanMake, Makes-extends, Makes-there, Makes-here, adds-with_node, den-extends, children-of, IsNodeOf-complement_if, IsBranch-node}

-- the part of a node that is there
part-node : (S : Nodes) (m : NodeId) (b : Bool) (p : Pair) → node_at S m ≡ Some p
    → part S (Node m b) ≡ node m.level (complement_by b p.0) (complement_by b p.1)
part-node S m b p e = graph_part-node (node_at S) m b p e

-- the part of a node that has these children
pub part-children : (S : Nodes) (v : ℕ) (lo hi r : Ref) → IsNodeOf S v lo hi r → part S r ≡ node v lo hi
part-children S v lo hi False h = absurd (none_some (lo, hi) h.1)
part-children S v lo hi True h = absurd (none_some (lo, hi) h.1)
part-children S v lo hi (Node m b) h = ap (part_of m) h.1 ∙ ap (λ u. node u lo hi) h.0

-- a reference with two children refers to a node that has them, with a complement bit or without
pub of_part : (S : Nodes) (r : Ref) (v : ℕ) (lo hi : Ref) → Has S r → part S r ≡ node v lo hi
    → (m : NodeId) × (b : Bool) × (r ≡ Node m b) × (m.level ≡ v) × (children S (Node m b) ≡ Some (lo, hi))
of_part S r v lo hi h e =
    let m = node_of_part (node_at S) r v lo hi h e in
    (m.0, m.1, m.3, m.5, children-of S m.0 m.1 m.2 m.4 ∙ (λ i. Some (m.6 i, m.7 i)))

-- the level of a reference, by its name and by its part
pub top-part : (S : Nodes) (n : ℕ) (r : Ref) → Has S r → graph.top n r ≡ top_of n (part S r)
top-part S n r h = top-graph_part n (node_at S) r h

pub parts : (S : Nodes) → IsSound S → AreParts S.levels (part S) (Has S)
parts S w = graph_parts S.levels (node_at S) w.reduced

-- what a node denotes, by its bit
pub by_bit : (S : Nodes) → IsSound S → (r : Ref) (v : ℕ) (lo hi : Ref) → Has S r → part S r ≡ node v lo hi → (x : List Bool)
    → den S r x ≡ den S (cond (get_or x v false) hi lo) x
by_bit S w r v lo hi h e x =
    let m = of_part S r v lo hi h e in
    ap (λ z. den S z x) m.2 ∙ IsBranch-node S v lo hi (Node m.0 m.1) w (m.3, m.4) x ∙ push (bit x v)
  where
    push : (b : Bool) → cond b (den S hi x) (den S lo x) ≡ den S (cond b hi lo) x
    push true = refl
    push false = refl

pub denotes : (S : Nodes) → IsSound S → IsDenotation S.levels (part S) (Has S) (den S)
denotes S w = graph_denotes S.levels (node_at S) w.reduced

-- a store that has the nodes of another keeps its references and their parts
pub keeps : (S T : Nodes) → Extends S T → Keeps S T
keeps S T x = record {
  levels = x.levels;
  limit = x.limit;
  has = λ r h. IsRef-extends S T r x h;
  part_is = λ r h. same r h;
}
  where
    same : (r : Ref) → Has S r → part T r ≡ part S r
    same False h = refl
    same True h = refl
    same (Node m b) h = part-node T m b h.0 (x.nodes m h.0 h.1) ∙ sym (part-node S m b h.0 h.1)

pub keeps-refl : (S : Nodes) → Keeps S S
keeps-refl S = record { levels = refl; limit = refl; has = λ r h. h; part_is = λ r h. refl }

pub keeps-trans : (S T U : Nodes) → Keeps S T → Keeps T U → Keeps S U
keeps-trans S T U i j = record {
  levels = j.levels ∙ i.levels;
  limit = j.limit ∙ i.limit;
  has = λ r h. j.has r (i.has r h);
  part_is = λ r h. j.part_is r (i.has r h) ∙ i.part_is r h;
}

-- what keeps references keeps nodes under their names
pub extends : (S T : Nodes) → Keeps S T → Extends S T
extends S T k = record {
  levels = k.levels;
  limit = k.limit;
  nodes = λ m p e. one m p (k.has (Node m false) (p, e)) (k.part_is (Node m false) (p, e) ∙ part-node S m false p e);
}
  where
    one : (m : NodeId) (p : Pair) → Has T (Node m false) → part T (Node m false) ≡ node m.level p.0 p.1 → node_at T m ≡ Some p
    one m p h e =
        let f : ◌≡◌ {A = Part Ref} (node m.level h.0.0 h.0.1) (node m.level p.0 p.1) = sym (part-node T m false h.0 h.1) ∙ e in
        let lo : h.0.0 ≡ p.0 = cc in
        let hi : h.0.1 ≡ p.1 = cc in
        let pair : h.0 ≡ p = λ i. (lo i, hi i) in
        h.1 ∙ ap (λ z. Some z) pair

-- old references mean what they meant
pub kept_den : (S T : Nodes) → IsSound S → Keeps S T → (r : Ref) → Has S r → (x : List Bool) → den T r x ≡ den S r x
kept_den S T w k r h x = den-extends S T r x w (extends S T k) h

pub kept_top : (S T : Nodes) → Keeps S T → (r : Ref) → top T r ≡ top S r
kept_top S T k r = ap (λ n. graph.top n r) k.levels

-- the level of a node, by its parts
pub top-node : (S : Nodes) (r : Ref) (v : ℕ) (lo hi : Ref) → Has S r → part S r ≡ node v lo hi → top S r ≡ v
top-node S r v lo hi h e = top-part S S.levels r h ∙ ap (top_of S.levels) e

-- equal functions have one reference
pub one_diagram : (S : Nodes) → IsSound S → (a b : Ref) → Has S a → Has S b → Agree S.levels (den S a) (den S b) → a ≡ b
one_diagram S w a b h k same = canonical S.levels (node_at S) w.reduced a b h k same

-- no node by its name, none by its parts
pub absent : (S : Nodes) (v : ℕ) (lo hi : Ref) → nodes.IsAbsent S v lo hi → IsAbsent S v lo hi
absent S v lo hi a r h e = let m = of_part S r v lo hi h e in a (Node m.0 m.1) (m.3, m.4)

-- the complement of a reference is there, at its level, and its part has the complements of the children
pub has-negate : (S : Nodes) (r : Ref) → Has S r → Has S (negate_of r)
has-negate S r h = IsRef-complement_by (node_at S) true r h

pub top-negate : (S : Nodes) (r : Ref) → top S (negate_of r) ≡ top S r
top-negate S r = top-complement_by S.levels true r

pub part-negate : (S : Nodes) (r : Ref) (v : ℕ) (lo hi : Ref) → Has S r → part S r ≡ node v lo hi
    → part S (negate_of r) ≡ node v (negate_of lo) (negate_of hi)
part-negate S r v lo hi h e =
    let m = of_part S r v lo hi h e in
    ap (λ z. part S (negate_of z)) m.2
    ∙ part-children S v (negate_of lo) (negate_of hi) (negate_of (Node m.0 m.1)) (IsNodeOf-complement_if S v true lo hi (Node m.0 m.1) (m.3, m.4))

pub opposite-negate : (S : Nodes) (r : Ref) → AreOpposite S (negate_of r) r
opposite-negate S r x len = den-negate S r x

-- two references of one name
pub same_node : (S : Nodes) (m : NodeId) (b c : Bool) → IsOneNode S (Node m b) (Node m c)
same_node S m true true = inl refl
same_node S m true false = inr (refl, λ x len. den-negate S (Node m false) x)
same_node S m false true = inr (refl, λ x len. den-negate S (Node m true) x)
same_node S m false false = inl refl

-- what `make` leaves
pub made : (S T : Nodes) (v : ℕ) (lo hi : Ref) (r : Result Ref StoreFault) → IsSound S → CanMake S v lo hi → Makes S v lo hi r T
    → IfOk r (λ z. IsMade S T v lo hi z)
made S T v lo hi (Err e) w c h = tt
made S T v lo hi (Ok r) w c h = record {
  keeps = keeps S T (Makes-extends S T v lo hi (Ok r) w c h);
  has = Makes-here S T v lo hi (Ok r) w c h;
  is = there (Makes-there S T v lo hi r w c h);
  no_other = λ m k. other m k h;
}
  where
    there : IsThere T v lo hi r → ((lo ≡ hi) × (r ≡ lo)) ⊎ ((lo ≢ hi) × (part T r ≡ node v lo hi))
    there (inl a) = inl a
    there (inr b) = inr (b.0, part-children T v lo hi r b.1)

    p : Pair
    p = regular_pair lo hi

    name : (m : NodeId) (b : Bool) → Has (with_node S v p.0 p.1) (Node m b) → r ≡ Node (fresh S v p.0 p.1) (is_complement hi) → Has S (Node m b) ⊎ IsOneNode T (Node m b) r
    name m b k e = elim ((adds-with_node S v p.0 p.1 w.shaped c.level).only m k.0 k.1) [
      | inl old ↦ inl (k.0, old)
      | inr new ↦ inr (
          subst (λ (z : Ref). IsOneNode T (Node m b) z) (ap (λ z. Node z (is_complement hi)) new.0 ∙ sym e) (same_node T m b (is_complement hi))
          )
    ]

    fresh_or_old : (m : Ref) → Has (with_node S v p.0 p.1) m → r ≡ Node (fresh S v p.0 p.1) (is_complement hi) → Has S m ⊎ IsOneNode T m r
    fresh_or_old False k e = inl tt
    fresh_or_old True k e = inl tt
    fresh_or_old (Node m b) k e = name m b k e

    other : (m : Ref) → Has T m → Makes S v lo hi (Ok r) T → Has S m ⊎ ((lo ≢ hi) × IsOneNode T m r)
    other m k (inl a) = inl (subst (λ z. Has z m) a.1 k)
    other m k (inr b) = elim (fresh_or_old m (subst (λ z. Has z m) b.3 k) b.2) [ inl old ↦ inl old | inr one ↦ inr (b.0.0, one) ]

pub full : (S T : Nodes) (v : ℕ) (lo hi : Ref) (r : Result Ref StoreFault) → Makes S v lo hi r T → IfErr r (λ e. IsFull S v lo hi e)
full S T v lo hi (Ok r) h = tt
full S T v lo hi (Err OutOfMemory) h = tt
full S T v lo hi (Err Full) h = (h.1, h.0.0, absent S v lo hi h.0.1)

same_child : (c d : Bool) (z : Ref) → cond c (cond d z z) z ≡ z
same_child true true z = refl
same_child true false z = refl
same_child false d z = refl

-- the cofactor of a reference, by its name and by its part
pub cofactor-step : (S : Nodes) (r : Ref) (v : ℕ) (b : Bool) → Has S r → cofactor_of S r v b ≡ step_of v r b (part S r)
cofactor-step S False v b h = same_child (nat_eq S.levels v) b False
cofactor-step S True v b h = same_child (nat_eq S.levels v) b True
cofactor-step S (Node m c) v b h = named h.0 h.1 ∙ sym (ap (step_of v (Node m c) b) (part-node S m c h.0 h.1))
  where
    named : (p : Pair) → node_at S m ≡ Some p → cofactor_of S (Node m c) v b ≡ cond (nat_eq m.level v) (cond b (complement_by c p.1) (complement_by c p.0)) (Node m c)
    named p e = rw e refl
