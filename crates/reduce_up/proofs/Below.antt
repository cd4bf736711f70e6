-- Which nodes a reference needs, and functions with bits fixed.
use Rattle.std.proofs.Common.{◌≡◌, ℕ, ◌+◌, ◌<◌, ◌≤◌, inr, Bool, List, ◌++◌, length, take, drop, sym, ◌∙◌, ap, subst, arith}
use Rattle.std.specs.Prelude.{not}
use Rattle.std.proofs.Math.Bool.{not-not}
use Rattle.std.proofs.lemmas.List.{length-append, take-append-drop}
use Rattle.std.proofs.Math.ListN.{length-take, length-drop}
use Rattle.dd_store.specs.declared.reference.Ref.{Ref}
use Rattle.dd_store.specs.Functions.{Agree, IsFixedSomehow, DependsOn}
use Rattle.dd_store.specs.Nodes.{Nodes, IsSound, den}
use Rattle.dd_store.specs.Parts.{IsReachable}
use Rattle.dd_store.specs.Parts.Part.{node}
use Rattle.dd_store.specs.View.{part, Has, IsOneNode}
use Rattle.dd_store.proofs.References.{node_for, NodeOf, reads, canonical}
use Rattle.dd_store.proofs.View.{parts, denotes, same_ref, top-node}
use Rattle.reduce_up.proofs.Opposite.{depends_not}

-- functions agree if they do so at each assignment in two parts
pub in_parts : (n v : ℕ) → v ≤ n → (f g : List Bool → Bool) → ((q x : List Bool) → length q ≡ v → v + length x ≡ n → f (q ++ x) ≡ g (q ++ x)) → Agree n f g
in_parts n v le f g h y hy =
    let k : f (take v y ++ drop v y) ≡ g (take v y ++ drop v y) = h (take v y) (drop v y) (simp length-take (omega arith)) (simp length-drop (omega arith)) in
    subst (λ z. f z ≡ g z) (take-append-drop v y) k

-- what a function is with bits fixed, an equal one is
pub fixed_of : (n v : ℕ) (f g h : List Bool → Bool) → Agree n f g → IsFixedSomehow n v g h → IsFixedSomehow n v f h
fixed_of n v f g h a i = (i.0, i.1, λ q x hq hx. i.2 q x hq hx ∙ sym (a (i.0 ++ x) (let k : length (i.0) ≡ v = i.1 in simp length-append (omega arith))))

-- what is equal to a function with bits fixed is that function with bits fixed
pub fixed_as : (n v : ℕ) (f g h : List Bool → Bool) → Agree n h g → IsFixedSomehow n v f g → IsFixedSomehow n v f h
fixed_as n v f g h a i = (i.0, i.1, λ q x hq hx. a (q ++ x) (simp length-append (omega arith)) ∙ i.2 q x hq hx)

module _ (S : Nodes) (w : IsSound S) where
  -- a node depends on the bit of its level
  pub node_reads : (m : Ref) (v : ℕ) (lo hi : Ref) → Has S m → part S m ≡ node v lo hi → DependsOn S.levels v (den S m)
  node_reads m v lo hi h e = reads Ref same_ref S.levels (part S) (Has S) (den S) (parts S w) (denotes S w) m v lo hi h e

  -- a node that denotes a reference's function with the bits before its level fixed is below the reference
  pub lies_below : (r m : Ref) (v : ℕ) (lo hi : Ref) → Has S r → Has S m → part S m ≡ node v lo hi → IsFixedSomehow S.levels v (den S r) (den S m) → IsReachable (part S) r m
  lies_below r m v lo hi hr hm e f =
      let lt : v < S.levels = (parts S w).level m v lo hi hm e in
      let at : (m' : Ref) × NodeOf Ref same_ref S.levels (part S) (Has S) (den S) (parts S w) (denotes S w) r v (den S m) m' =
      node_for Ref same_ref S.levels (part S) (Has S) (den S) (parts S w) (denotes S w) r v (den S m) hr f (node_reads m v lo hi hm e) in
      subst (λ z. IsReachable (part S) r z)
      (canonical Ref same_ref S.levels (part S) (Has S) (den S) (parts S w) (denotes S w) at.0 m at.1.has hm (in_parts S.levels v (omega arith) (den S at.0) (den S m) at.1.value)) at.1.reached

  -- below a reference is the complement of a node that denotes the complement of its function with the bits before the
  -- node's level fixed
  pub complement_below : (r m : Ref) (v : ℕ) (lo hi : Ref) → Has S r → Has S m → part S m ≡ node v lo hi → IsFixedSomehow S.levels v (den S r) (λ x. not (den S m x)) → (c : Ref) × IsReachable (part S) r c × IsOneNode S m c
  complement_below r m v lo hi hr hm e f =
      let opposite : List Bool → Bool = λ (x : List Bool). not (den S m x) in
      let lt : v < S.levels = (parts S w).level m v lo hi hm e in
      let at : (c : Ref) × NodeOf Ref same_ref S.levels (part S) (Has S) (den S) (parts S w) (denotes S w) r v opposite c =
      node_for Ref same_ref S.levels (part S) (Has S) (den S) (parts S w) (denotes S w) r v opposite hr f (depends_not S.levels v (den S m) (node_reads m v lo hi hm e)) in
      let values : Agree S.levels (den S at.0) opposite = in_parts S.levels v (omega arith) (den S at.0) opposite at.1.value in
      let is = at.1.is_node in (
        at.0,
        at.1.reached,
        inr (top-node S m v lo hi hm e ∙ sym (top-node S at.0 v is.0 is.1 at.1.has is.2), λ x hx. sym (not-not (den S m x)) ∙ ap not (sym (values x hx))),
      )
