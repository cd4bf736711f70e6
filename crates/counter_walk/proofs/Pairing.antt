-- Pairs of references, and the exclusive or of their functions.
use Rattle.std.proofs.Common.{◌≡◌, ℕ, ◌-◌, ◌<◌, ◌≤◌, Bool, true, false, not, cond, List, [], length, get_or, min, refl, sym, ◌∙◌, ap, subst, arith}
use Rattle.std.proofs.Math.ListN.{set}
use Rattle.dd_store.specs.declared.reference.Ref.{Ref}
use Rattle.dd_store.specs.declared.reference.Reference.TheVariants.{False, True, Node}
use Rattle.dd_store.specs.Equal.{ref_same}
use Rattle.dd_store.specs.Functions.{Agree, IsLeastDifference}
use Rattle.dd_store.specs.Complements.{negate_of, complement_by, complemented}
use Rattle.dd_store.specs.Nodes.{Nodes, node, den, cofactor_of, IsSound}
use Rattle.dd_store.specs.View.{Has, top}
use Rattle.dd_store.proofs.Canonical.{walk-set}
use Rattle.dd_store.proofs.Laws.{den-cofactor, cofactor_ref}
use Rattle.dd_store.proofs.Complements.{top-complement_by, IsRef-complement_by, den-negate, den-complement_by}
use Rattle.counter_walk.specs.declared.least.DiffPair.{DiffPair}
use Rattle.counter_walk.specs.contracts.least.DiffPairPartialEq.TheImpl.{eq-value as pair_eq}
use Rattle.counter_walk.specs.DeclaredOrder.{IsOrder, assignment_by_level}
use Rattle.counter_walk.specs.Lines.{unlike, differs, IsDiffPairOf, IsIndependentOf}
use Rattle.counter_walk.proofs.Arranging.{get_or-assignment_by_level, assignment_by_level-set, arranged_from}
use Rattle.counter_walk.proofs.Choosing.{IsChoice}
use Rattle.counter_walk.proofs.Fixing.{unlike_of_ne, unlike_same, IsFixed, fixed_start}
use Rattle.counter_walk.proofs.Plain.{store_walk, least}

-- pairs that compare as equal are equal
pub pair_same : (x y : DiffPair) → pair_eq.it x y ≡ true → x ≡ y
pair_same x y e =
    let f : x.first ≡ y.first = ref_same x.first y.first (grind arith) in
    let g : x.second ≡ y.second = ref_same x.second y.second (grind arith) in
    λ i. record { first = f i; second = g i }

-- ---- pairs with the exclusive or of two references

unlike_swapped : (a b : Bool) → unlike a b ≡ unlike b a
unlike_swapped true true = refl
unlike_swapped true false = refl
unlike_swapped false true = refl
unlike_swapped false false = refl

unlike_complemented : (m a b : Bool) → unlike (complemented m a) (complemented m b) ≡ unlike a b
unlike_complemented false a b = refl
unlike_complemented true true true = refl
unlike_complemented true true false = refl
unlike_complemented true false true = refl
unlike_complemented true false false = refl

unlike_not : (a b : Bool) → a ≡ not b → unlike a b ≡ true
unlike_not true true e = cc
unlike_not true false e = refl
unlike_not false true e = refl
unlike_not false false e = cc

pub top_most : (S : Nodes) → IsSound S → (r : Ref) → Has S r → top S r ≤ S.levels
top_most S w False h = omega arith
top_most S w True h = omega arith
top_most S w (Node m b) h = let lt : m.level < S.levels = w.reduced.placed m h.0 h.1 in omega arith

-- the exclusive or of equal references, and of complements
den_same : (S : Nodes) (f g : Ref) → f ≡ g → (x : List Bool) → unlike (den S f x) (den S g x) ≡ false
den_same S f g e x = unlike_same (den S f x) (den S g x) (ap (λ z. den S z x) e)

den_opposite : (S : Nodes) (f g : Ref) → f ≡ negate_of g → (x : List Bool) → unlike (den S f x) (den S g x) ≡ true
den_opposite S f g e x = unlike_not (den S f x) (den S g x) (ap (λ z. den S z x) e ∙ den-negate S g x)

pub pair_of_same : (S : Nodes) → IsSound S → (f g : Ref) → Has S f → Has S g → f ≡ g
    → IsDiffPairOf S f g (record { first = True; second = True })
pair_of_same S w f g hf hg e =
    let a : top S f ≤ S.levels = top_most S w f hf in
    record {
      first = tt;
      second = tt;
      level = λ v le lg. (omega arith, omega arith);
      alike = λ x. den_same S True True refl x ∙ sym (den_same S f g e x);
    }

pub pair_of_opposite : (S : Nodes) → IsSound S → (f g : Ref) → Has S f → Has S g → f ≡ negate_of g
    → IsDiffPairOf S f g (record { first = True; second = False })
pair_of_opposite S w f g hf hg e =
    let a : top S f ≤ S.levels = top_most S w f hf in
    record {
      first = tt;
      second = tt;
      level = λ v le lg. (omega arith, omega arith);
      alike = λ x. den_opposite S True False refl x ∙ sym (den_opposite S f g e x);
    }

pub pair_of_complemented : (S : Nodes) (f g : Ref) (m : Bool) → Has S f → Has S g
    → IsDiffPairOf S f g (record { first = complement_by m f; second = complement_by m g })
pair_of_complemented S f g m hf hg =
    let a : top S (complement_by m f) ≡ top S f = top-complement_by S.levels m f in
    let b : top S (complement_by m g) ≡ top S g = top-complement_by S.levels m g in
    record {
      first = IsRef-complement_by (node S) m f hf;
      second = IsRef-complement_by (node S) m g hg;
      level = λ v le lg. (omega arith, omega arith);
      alike = λ x. (λ i. unlike (den-complement_by S m f x i) (den-complement_by S m g x i)) ∙ unlike_complemented m (den S f x) (den S g x);
    }

pub pair_of_swapped : (S : Nodes) (f g : Ref) (p : DiffPair) → IsDiffPairOf S g f p → IsDiffPairOf S f g p
pair_of_swapped S f g p k = record {
  first = k.first;
  second = k.second;
  level = λ v le lg. k.level v lg le;
  alike = λ x. k.alike x ∙ unlike_swapped (den S g x) (den S f x);
}

-- ---- the exclusive or of two references

pub differs_same : (S : Nodes) (order : List ℕ) (f g : Ref) → f ≡ g → Agree S.levels (differs S order f g) (λ x. false)
differs_same S order f g e x len = den_same S f g e (assignment_by_level order x)

pub differs_opposite : (S : Nodes) (order : List ℕ) (f g : Ref) → f ≡ negate_of g → Agree S.levels (differs S order f g) (λ x. true)
differs_opposite S order f g e x len = den_opposite S f g e (assignment_by_level order x)

pub differs_pair : (S : Nodes) (order : List ℕ) (f g : Ref) (p : DiffPair) → IsDiffPairOf S f g p
    → Agree S.levels (differs S order f g) (differs S order p.first p.second)
differs_pair S order f g p k x len = sym (k.alike (assignment_by_level order x))

-- references that are neither equal nor complements are not both terminals
pub below_levels : (S : Nodes) → IsSound S → (f g : Ref) → Has S f → Has S g → (f ≡ g → ⊥) → (f ≡ negate_of g → ⊥)
    → min (top S f) (top S g) < S.levels
below_levels S w False False hf hg ne other = absurd (ne refl)
below_levels S w False True hf hg ne other = absurd (other refl)
below_levels S w True False hf hg ne other = absurd (other refl)
below_levels S w True True hf hg ne other = absurd (ne refl)
below_levels S w (Node m b) g hf hg ne other = let lt : m.level < S.levels = w.reduced.placed m hf.0 hf.1 in omega arith
below_levels S w False (Node m b) hf hg ne other = let lt : m.level < S.levels = w.reduced.placed m hg.0 hg.1 in omega arith
below_levels S w True (Node m b) hf hg ne other = let lt : m.level < S.levels = w.reduced.placed m hg.0 hg.1 in omega arith

-- a cofactor is there, below its level
pub below : (S : Nodes) → IsSound S → (r : Ref) (v : ℕ) (b : Bool) (z : Ref) → Has S r → v < S.levels → v ≤ top S r
    → z ≡ cofactor_of S r v b → Has S z × (v < top S z)
below S w r v b z h lt le e = subst (λ c. Has S c × (v < top S c)) (sym e) (cofactor_ref S r v b w h lt le)

module _ (S : Nodes) (w : IsSound S) (order : List ℕ) (o : IsOrder S.levels order) where
  -- below a level its variable does not matter
  differs_free : (v : ℕ) → v < S.levels → (f g : Ref) → Has S f × (v < top S f) → Has S g × (v < top S g)
      → IsIndependentOf S.levels (get_or order v 0) (differs S order f g)
  differs_free v lt f g hf hg b x len =
      let d : ℕ = get_or order v 0 in
      let y : List Bool = assignment_by_level order x in
      let at : assignment_by_level order (set x d b) ≡ set y v b = assignment_by_level-set S.levels order x v b o lt len in
      let one : den S f (assignment_by_level order (set x d b)) ≡ den S f y = ap (den S f) at ∙ walk-set S.levels (node S) w.reduced f y v b hf.0 hf.1 in
      let two : den S g (assignment_by_level order (set x d b)) ≡ den S g y = ap (den S g) at ∙ walk-set S.levels (node S) w.reduced g y v b hg.0 hg.1 in
      λ i. unlike (one i) (two i)

  -- the exclusive or of two references chooses between those of their cofactors
  pub choice_of : (v : ℕ) (f g f_low f_high g_low g_high : Ref) → Has S f → Has S g → v < S.levels → v ≤ top S f → v ≤ top S g
      → f_low ≡ cofactor_of S f v false → f_high ≡ cofactor_of S f v true → g_low ≡ cofactor_of S g v false → g_high ≡ cofactor_of S g v true
      → IsChoice S.levels (get_or order v 0) (differs S order f g) (differs S order f_low g_low) (differs S order f_high g_high)
  choice_of v f g f_low f_high g_low g_high hf hg lt le lg fl fh gl gh = record {
    variable = o.declared v lt;
    low = differs_free v lt f_low g_low (below S w f v false f_low hf lt le fl) (below S w g v false g_low hg lt lg gl);
    high = differs_free v lt f_high g_high (below S w f v true f_high hf lt le fh) (below S w g v true g_high hg lt lg gh);
    chosen = λ x len.
        let y : List Bool = assignment_by_level order x in
        let full : length order ≡ S.levels = o.each_level in
        let bit : get_or y v false ≡ get_or x (get_or order v 0) false = get_or-assignment_by_level order x v (omega arith) in
        (λ i. unlike (den-cofactor S f v y w hf lt i) (den-cofactor S g v y w hg lt i))
        ∙ ap (λ b. unlike (den S (cofactor_of S f v b) y) (den S (cofactor_of S g v b) y)) bit
        ∙ pick y (get_or x (get_or order v 0) false);
  }
    where
      pick : (y : List Bool) (b : Bool) → unlike (den S (cofactor_of S f v b) y) (den S (cofactor_of S g v b) y)
          ≡ cond b (unlike (den S f_high y) (den S g_high y)) (unlike (den S f_low y) (den S g_low y))
      pick y true = λ i. unlike (den S (sym fh i) y) (den S (sym gh i) y)
      pick y false = λ i. unlike (den S (sym fl i) y) (den S (sym gl i) y)

  -- references that are not equal differ somewhere
  pub differ_start : (f g : Ref) → Has S f → Has S g → (f ≡ g → ⊥) → IsFixed S.levels (differs S order f g) []
  differ_start f g hf hg ne =
      let y : List Bool = store_walk S S.levels 0 f g in
      let k : IsLeastDifference S.levels (den S f) (den S g) y = least S w f g hf hg ne in
      let x = arranged_from S.levels order y o k.bits in
      fixed_start S.levels (differs S order f g) x.0 x.1
      (unlike_of_ne (den S f (assignment_by_level order x.0)) (den S g (assignment_by_level order x.0)) (λ e. k.differ (ap (den S f) (sym x.2) ∙ e ∙ ap (den S g) x.2)))

-- the level of a pair that is neither equal nor complements
pub level_here : (S : Nodes) → IsSound S → (f g : Ref) (a b v : ℕ) → Has S f → Has S g → (f ≡ g → ⊥) → (f ≡ negate_of g → ⊥)
    → a ≡ top S f → b ≡ top S g → v ≡ min a b → (v < S.levels) × (v ≤ top S f) × (v ≤ top S g)
level_here S w f g a b v hf hg ne other ea eb e =
    let lt : min (top S f) (top S g) < S.levels = below_levels S w f g hf hg ne other in
    (omega arith, omega arith, omega arith)

-- from two references to cofactors of their pair there are fewer levels left
pub falls : (S : Nodes) (f g : Ref) (p : DiffPair) (v : ℕ) (x y : Ref) → IsDiffPairOf S f g p → v < S.levels → v ≤ top S p.first → v ≤ top S p.second
    → min (top S p.first) (top S p.second) ≤ v → v < top S x → v < top S y
    → S.levels - min (top S x) (top S y) < S.levels - min (top S f) (top S g)
falls S f g p v x y k lt a b le c d =
    let m = k.level (min (top S f) (top S g)) (omega arith) (omega arith) in
    let m0 = m.0 in
    let m1 = m.1 in
    omega arith
