-- A function or its complement, and references of one node.
use Rattle.std.proofs.Common.{◌≡◌, ℕ, ◌<◌, inl, inr, Bool, true, false, List, ◌++◌, refl, sym, ◌∙◌, ap, subst, arith}
use Rattle.std.specs.Prelude.{not}
use Rattle.std.proofs.Math.Bool.{not-not}
use Rattle.dd_store.specs.declared.reference.Ref.{Ref}
use Rattle.dd_store.specs.Functions.{Agree, IsFixedSomehow, DependsOn, OfEither}
use Rattle.dd_store.specs.Complements.{complemented}
use Rattle.dd_store.specs.Nodes.{Nodes, IsSound, den}
use Rattle.dd_store.specs.Parts.{Part, top_of}
use Rattle.dd_store.specs.Parts.Part.{leaf, node}
use Rattle.dd_store.specs.View.{part, Has, top, Keeps, IsOneNode}
use Rattle.dd_store.proofs.View.{parts, top-part, top-node, kept_den}

-- ---- a function or its complement

pub either_more : (P Q : (List Bool → Bool) → Type 0) → ((f : List Bool → Bool) → P f → Q f) → (f : List Bool → Bool) → OfEither P f → OfEither Q f
either_more P Q h f (inl p) = inl (h f p)
either_more P Q h f (inr p) = inr (h (λ x. not (f x)) p)

-- the complement of a complement is the function
pub either_either : (P : (List Bool → Bool) → Type 0) (f : List Bool → Bool) → OfEither (OfEither P) f → OfEither P f
either_either P f (inl i) = i
either_either P f (inr (inl p)) = inr p
either_either P f (inr (inr p)) = inl (subst P (λ i x. not-not (f x) i) p)

-- the complement with its bits fixed is the complement of the function with its bits fixed
pub fixed_complemented : (n v : ℕ) (b : Bool) (f g : List Bool → Bool) → IsFixedSomehow n v (λ x. complemented b (f x)) g → OfEither (IsFixedSomehow n v f) g
fixed_complemented n v false f g i = inl i
fixed_complemented n v true f g (p, long, same) = inr (p, long, λ q r hq hr. ap not (same q r hq hr) ∙ not-not (f (p ++ r)))

-- the complement reads the same bits
pub depends_not : (n v : ℕ) (f : List Bool → Bool) → DependsOn n v f → DependsOn n v (λ x. not (f x))
depends_not n v f (q, r, hq, hr, differ) = (q, r, hq, hr, λ e. differ (sym (not-not _) ∙ ap not e ∙ not-not _))

-- what follows for a function that reads a bit follows for it or its complement
pub either_reads : (n v : ℕ) (P Q : (List Bool → Bool) → Type 0) → ((f : List Bool → Bool) → DependsOn n v f → P f → Q f) → (f : List Bool → Bool) → DependsOn n v f → OfEither P f → OfEither Q f
either_reads n v P Q h f d (inl p) = inl (h f d p)
either_reads n v P Q h f d (inr p) = inr (h (λ x. not (f x)) (depends_not n v f d) p)

-- in a later store
pub either_kept : (S T : Nodes) → IsSound S → Keeps S T → (P : (List Bool → Bool) → Type 0) (m : Ref) → Has S m → OfEither P (den S m) → OfEither P (den T m)
either_kept S T w k P m h i = subst (OfEither P) (same_function (den S m) (den T m) (λ x. sym (kept_den S T w k m h x))) i
  where
    same_function : (f g : List Bool → Bool) → ((x : List Bool) → f x ≡ g x) → f ≡ g
    same_function f g e = λ i x. e x i

-- ---- two references of one node

-- one of them denotes what the other does, or the complement of it
pub one_node_either : (S : Nodes) (m r : Ref) (P : (List Bool → Bool) → Type 0) → ((f g : List Bool → Bool) → Agree S.levels f g → P g → P f) → IsOneNode S m r → P (den S r) → OfEither P (den S m)
one_node_either S m r P agrees (inl e) p = inl (subst (λ z. P (den S z)) (sym e) p)
one_node_either S m r P agrees (inr o) p = inr (agrees (λ x. not (den S m x)) (den S r) (λ x hx. ap not (o.1 x hx) ∙ not-not (den S r x)) p)

-- a reference of a level is a node of it
node_at_top : (S : Nodes) (m : Ref) (v : ℕ) → Has S m → v < S.levels → top S m ≡ v → (lo : Ref) × (hi : Ref) × (part S m ≡ node v lo hi)
node_at_top S m v h lt at = by (part S m) refl (top-part S S.levels m h)
  where
    by : (p : Part Ref) → part S m ≡ p → top S m ≡ top_of S.levels (part S m) → (lo : Ref) × (hi : Ref) × (part S m ≡ node v lo hi)
    by (leaf b) e t = absurd (let k : top S m ≡ S.levels = t ∙ ap (top_of S.levels) e in omega arith)
    by (node u lo hi) e t = (lo, hi, e ∙ ap (λ z. node z lo hi) (sym (ap (top_of S.levels) e) ∙ sym t ∙ at))

pub one_node_part : (S : Nodes) → IsSound S → (m r : Ref) (v : ℕ) (lo hi : Ref) → Has S m → Has S r → part S r ≡ node v lo hi → IsOneNode S m r → (a : Ref) × (b : Ref) × (part S m ≡ node v a b)
one_node_part S w m r v lo hi hm hr is (inl e) = (lo, hi, ap (part S) e ∙ is)
one_node_part S w m r v lo hi hm hr is (inr o) = node_at_top S m v hm ((parts S w).level r v lo hi hr is) (o.0 ∙ top-node S r v lo hi hr is)
