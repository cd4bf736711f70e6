-- Diagrams of a window's nodes: those of leaves, of complements and of operations, and in later stores.
use Rattle.std.proofs.Common.{◌≡◌, ℕ, ◌<◌, ◌≤◌, Bool, true, false, not, List, [], ◌∷◌, ◌++◌, length, Some, slice_get, refl, sym, ap, subst, ◌∙◌, inl, inr}
use Rattle.std.specs.Prelude.{Result, Ok, Err, IfOk}
use Rattle.std.proofs.lemmas.List.{length-take-le}
use Rattle.slot_table.specs.Lists.{IsIn, IsOnce}
use Rattle.slot_table.proofs.Places.{slice_get_cases-push}
use Rattle.dd_store.specs.declared.reference.Ref.{Ref}
use Rattle.dd_store.specs.declared.reference.Reference.TheVariants.{False}
use Rattle.dd_store.specs.Complements.{complement_by, negate_of}
use Rattle.dd_store.specs.Functions.{IsLeastDifference}
use Rattle.dd_store.specs.Nodes.{IsDiagram, IsSound, Nodes, den, node as store_node}
use Rattle.dd_store.specs.View.{Has as HasRef, Keeps}
use Rattle.dd_store.proofs.Complements.{IsRef-complement_by, den-complement_by, den-negate}
use Rattle.dd_store.proofs.Laws.{den-false}
use Rattle.dd_store.proofs.View.{kept_den}
use Rattle.req_table.specs.declared.Op.{Op}
use Rattle.req_table.specs.declared.Op.TheVariants as ops
use Rattle.req_table.specs.TerminalCase.{op_value}
use Rattle.reduce_up.specs.Waves.{entry_value}
use Rattle.pair_graph.specs.declared.node.Node.{Node}
use Rattle.pair_graph.specs.declared.node.Node.TheVariants.{Constant, And, Xor}
use Rattle.pair_graph.specs.Literals.{Parts, negated, node_literal}
use Rattle.pair_graph.specs.Graphs.{IsGraph, bit, exclusive_or, inverted_if}
use Rattle.pair_graph.proofs.Values.{inverted_if-not}
use Rattle.cut_window.specs.WindowParts.{WindowParts, leaves_of}
use Rattle.cut_window.specs.Windows.{AgreeOver, DifferOver, node_over, value_over}
use Rattle.cut_window.proofs.Over.{node_over-at, node_over-leaf}
use Rattle.cut_window.proofs.Places.{place_of-above, place_of-absent, place_of-leaf}
use Rattle.wave_judge.specs.OverLeaves.{AreDiagramsOver, IsDiagramOver, IsOperationOver}

-- a later store has the same diagrams
IsDiagramOver-kept : (g : List Node) (w : WindowParts) (S T : Nodes) (l : Parts) (r : Ref) → IsSound S → Keeps S T → IsDiagramOver g w S l r
    → IsDiagramOver g w T l r
IsDiagramOver-kept g w S T l r sound keeps is =
    (keeps.has r is.0, λ x y size. kept_den S T sound keeps r is.0 y ∙ is.1 x y (size ∙ keeps.levels))

pub AreDiagramsOver-kept : (g : List Node) (w : WindowParts) (S T : Nodes) (refs : List Ref) → IsSound S → Keeps S T → AreDiagramsOver g w S refs
    → AreDiagramsOver g w T refs
AreDiagramsOver-kept g w S T refs sound keeps are = record {
  levels = keeps.levels ∙ are.levels;
  each = λ i n r at e. IsDiagramOver-kept g w S T (node_literal n) r sound keeps (are.each i n r at e);
}

-- one more node has a diagram
pub AreDiagramsOver-push : (g : List Node) (w : WindowParts) (S : Nodes) (refs : List Ref) (r : Ref) → AreDiagramsOver g w S refs
    → ((n : ℕ) → slice_get w.nodes (length refs) ≡ Some n → IsDiagramOver g w S (node_literal n) r) → AreDiagramsOver g w S (refs ++ r ∷ [])
AreDiagramsOver-push g w S refs r are last = record {
  levels = are.levels;
  each = λ i n s at e. elim (slice_get_cases-push refs r i s e) [
    | inl old ↦ are.each i n s at old
    | inr new ↦ subst (λ (q : Ref). IsDiagramOver g w S (node_literal n) q) (sym new.1)
        (last n (subst (λ (j : ℕ). slice_get w.nodes j ≡ Some n) new.0 at))
  ];
}

-- a leaf's diagram is the variable of its place
pub leaf-diagram : (g : List Node) (w : WindowParts) (S : Nodes) (i n : ℕ) (r : Ref) → IsOnce w.nodes → i < w.cut → slice_get w.nodes i ≡ Some n → HasRef S r
    → ((y : List Bool) → den S r y ≡ bit y i) → IsDiagramOver g w S (node_literal n) r
leaf-diagram g w S i n r once low at has is =
    (has, λ x y size. is y ∙ sym (node_over-leaf g (leaves_of w) x y n i (place_of-leaf w.nodes w.cut i n once low at)))

-- a literal of a node that has a diagram has this reference, or its complement
pub literal-diagram : (g : List Node) (w : WindowParts) (S : Nodes) (l : Parts) (r s : Ref) → IsDiagramOver g w S (node_literal l.node) r
    → s ≡ complement_by l.complemented r → IsDiagramOver g w S l s
literal-diagram g w S l r s is same =
    let P : Ref → Type 0 = λ q. IsDiagramOver g w S l q in
    subst P (sym same) (
      IsRef-complement_by (store_node S) l.complemented r is.0,
      λ x y size. den-complement_by S l.complemented r y ∙ ap (inverted_if l.complemented) (is.1 x y size),
    )

-- the constant's diagram, if it is no node of the window
pub constant-diagram : (g : List Node) (w : WindowParts) (S : Nodes) (n : ℕ) → IsGraph g → n ≡ 0 → (IsIn w.nodes n → ⊥) → IsDiagramOver g w S (node_literal n) False
constant-diagram g w S n sound zero_is absent = (
  tt,
  λ x y size. den-false S y ∙ sym (node_over-at g sound.ordered (leaves_of w) x y n Constant (place_of-absent w.nodes w.cut n absent)
      (ap (slice_get g) zero_is ∙ sound.constant)),
)

-- the answer of a wave for the references of two literals is the diagram of the operation on the literals
pub operation-diagram : (g : List Node) (w : WindowParts) (S T : Nodes) (op : Op) (a b : Parts) (p q r : Ref) → T.levels ≡ S.levels → IsDiagramOver g w S a p
    → IsDiagramOver g w S b q → IsDiagram T r (entry_value S (op, p, q)) → IsOperationOver g w T op a b r
operation-diagram g w S T op a b p q r levels is_a is_b answer = (
  answer.0,
  λ x y size. answer.1 y size ∙
      (let e = is_a.1 x y (size ∙ levels) in let f = is_b.1 x y (size ∙ levels) in λ i. op_value op (e i) (f i)),
)

xor-value : (a b : Bool) → op_value ops.Xor a b ≡ exclusive_or a b
xor-value true b = refl
xor-value false b = refl

-- a node above the leaves that is an And or an Xor has its operation's diagram
pub and-diagram : (g : List Node) (w : WindowParts) (S : Nodes) (n i : ℕ) (a b : Parts) (r : Ref) → IsGraph g → IsOnce w.nodes → w.cut ≤ i
    → slice_get w.nodes i ≡ Some n → slice_get g n ≡ Some (And a b) → IsOperationOver g w S ops.And a b r → IsDiagramOver g w S (node_literal n) r
and-diagram g w S n i a b r sound once above at is answer = (
  answer.0,
  λ x y size. answer.1 x y size ∙
      sym (node_over-at g sound.ordered (leaves_of w) x y n (And a b) (place_of-above w.nodes w.cut i n once above at) is),
)

pub xor-diagram : (g : List Node) (w : WindowParts) (S : Nodes) (n i : ℕ) (a b : Parts) (r : Ref) → IsGraph g → IsOnce w.nodes → w.cut ≤ i
    → slice_get w.nodes i ≡ Some n → slice_get g n ≡ Some (Xor a b) → IsOperationOver g w S ops.Xor a b r → IsDiagramOver g w S (node_literal n) r
xor-diagram g w S n i a b r sound once above at is answer = (
  answer.0,
  λ x y size. answer.1 x y size ∙ xor-value (value_over g (leaves_of w) x y a) (value_over g (leaves_of w) x y b) ∙
      sym (node_over-at g sound.ordered (leaves_of w) x y n (Xor a b) (place_of-above w.nodes w.cut i n once above at) is),
)

pub constant_above-diagram : (g : List Node) (w : WindowParts) (S : Nodes) (n i : ℕ) → IsGraph g → IsOnce w.nodes → w.cut ≤ i
    → slice_get w.nodes i ≡ Some n → slice_get g n ≡ Some Constant → IsDiagramOver g w S (node_literal n) False
constant_above-diagram g w S n i sound once above at is = (
  tt,
  λ x y size. den-false S y ∙
      sym (node_over-at g sound.ordered (leaves_of w) x y n Constant (place_of-above w.nodes w.cut i n once above at) is),
)

pub IfOk_then : {E : Type 0} (r : Result Ref E) (P Q : Ref → Type 0) → IfOk r P → ((x : Ref) → P x → Q x) → IfOk r Q
IfOk_then (Ok x) P Q h f = f x h
IfOk_then (Err e) P Q h f = tt

module _ (g : List Node) (w : WindowParts) (S : Nodes) (a b : Parts) (p q : Ref) (levels : S.levels ≡ w.cut) (among : w.cut ≤ length w.nodes)
    (is_a : IsDiagramOver g w S a p) (is_b : IsDiagramOver g w S b q) where
  -- a bit for each leaf is a bit for each level
  bits_fit : (y : List Bool) → length y ≡ length (leaves_of w) → length y ≡ S.levels
  bits_fit y size = size ∙ length-take-le w.cut w.nodes among ∙ sym levels

  -- equal references: the literals agree over the leaves
  pub agree_over : p ≡ q → AgreeOver g (leaves_of w) a b
  agree_over e x y size =
      sym (is_a.1 x y (bits_fit y size)) ∙ ap (λ (r : Ref). den S r y) e ∙ is_b.1 x y (bits_fit y size)

  -- references that are complements: one literal agrees with the complement of the other
  pub complements_over : p ≡ negate_of q → AgreeOver g (leaves_of w) a (negated b)
  complements_over e x y size =
      sym (is_a.1 x y (bits_fit y size)) ∙ ap (λ (r : Ref). den S r y) e ∙ den-negate S q y ∙ ap not (is_b.1 x y (bits_fit y size)) ∙
      sym (inverted_if-not b.complemented (node_over g (leaves_of w) x y b.node))

  -- a difference of the references is one of the literals
  pub differ_over : (y : List Bool) → IsLeastDifference S.levels (den S p) (den S q) y → DifferOver g (leaves_of w) a b y
  differ_over y is = record {
    each = is.bits ∙ levels ∙ sym (length-take-le w.cut w.nodes among);
    differ = λ x e. is.differ (is_a.1 x y is.bits ∙ e ∙ sym (is_b.1 x y is.bits));
  }
