-- Nodes of a store by their names: the reference that has two children, and the new nodes of a level.
use Rattle.std.proofs.Common.{◌≡◌, ◌≢◌, ℕ, ◌⊎◌, inl, inr, List, Some, sym, ap, ◌∙◌, subst}
use Rattle.dd_store.specs.declared.reference.Ref.{Ref}
use Rattle.dd_store.specs.declared.reference.Reference.TheVariants.{False, True, Node}
use Rattle.dd_store.specs.Graph.{Pair}
use Rattle.dd_store.specs.Growing.{IsIn}
use Rattle.dd_store.specs.Levels.{regular_lists}
use Rattle.dd_store.specs.Complements.{is_complement, complement_both, regular_pair}
use Rattle.dd_store.specs.Adding.{GrowsLevel}
use Rattle.dd_store.specs.Nodes.{Nodes, IsNodeOf, IsThere}
use Rattle.dd_store.specs.Parts.Part.{node}
use Rattle.dd_store.specs.View.{part, Has}
use Rattle.dd_store.proofs.AddingAll.{grown_regular}
use Rattle.dd_store.proofs.Complements.{complement_both-twice}
use Rattle.dd_store.proofs.Storing.{children-of, IsRef-node}
use Rattle.dd_store.proofs.View.{part-children, same_node}
use Rattle.reduce_up.specs.Sharing.{IsOfPair}

-- the reference for two children is in the store, and refers to a node that has them
pub there_part : (S : Nodes) (v : ℕ) (lo hi r : Ref) → Has S lo → IsThere S v lo hi r → Has S r × (((lo ≡ hi) × (r ≡ lo)) ⊎ ((lo ≢ hi) × (part S r ≡ node v lo hi)))
there_part S v lo hi r h (inl e) = (subst (Has S) (sym e.1) h, inl e)
there_part S v lo hi r h (inr n) = (IsRef-node S v lo hi r n.1, inr (n.0, part-children S v lo hi r n.1))

-- if all new nodes have the children of pairs in the lists, each reference is an old one, or is of the node of such a
-- pair
pub grown_of_pair : (S T : Nodes) (v : ℕ) (lists : ℕ → List Pair) → GrowsLevel S T v (regular_lists lists) → (r : Ref) → Has T r
    → Has S r ⊎ ((s : ℕ) × (p : Pair) × IsIn (lists s) p × IsOfPair T v p r)
grown_of_pair S T v lists g False h = inl tt
grown_of_pair S T v lists g True h = inl tt
grown_of_pair S T v lists g (Node m b) h = elim (grown_regular S T v lists g m h.0 h.1) [ inl old ↦ inl (h.0, old) | inr new ↦ inr (m.shard, new.0, new.3, of new.0 new.1 new.4) ]
  where
    of : (p : Pair) → m.level ≡ v → regular_pair p.0 p.1 ≡ h.0 → IsOfPair T v p (Node m b)
    of p at is =
        let c = is_complement p.1 in
        let own : IsNodeOf T v p.0 p.1 (Node m c) = (at, children-of T m c h.0 h.1 ∙ ap (λ z. Some (complement_both c z)) (sym is) ∙ ap (λ z. Some z) (complement_both-twice c p)) in
        (Node m c, ((h.0, h.1), part-children T v p.0 p.1 (Node m c) own), same_node T m b c)
