-- Diagrams of a window's nodes over its leaves: leaf i is the variable of level i.
use Rattle.std.specs.Prelude.{◌≡◌, ℕ, Bool, List, length, slice_get, Some}
use Rattle.dd_store.specs.declared.reference.Ref.{Ref}
use Rattle.dd_store.specs.Nodes.{Nodes, den}
use Rattle.dd_store.specs.View.{Has as HasRef}
use Rattle.req_table.specs.declared.Op.{Op}
use Rattle.req_table.specs.TerminalCase.{op_value}
use Rattle.pair_graph.specs.declared.node.Node.{Node}
use Rattle.pair_graph.specs.Literals.{Parts, node_literal}
use Rattle.cut_window.specs.WindowParts.{WindowParts, leaves_of}
use Rattle.cut_window.specs.Windows.{value_over}

-- a reference is the diagram of a literal over the leaves: it has the literal's value, whatever bits the leaves have
abbrev pub IsDiagramOver : List Node → WindowParts → Nodes → Parts → Ref → Type 0
IsDiagramOver g w S l r = HasRef S r × ((x y : List Bool) → length y ≡ S.levels → den S r y ≡ value_over g (leaves_of w) x y l)

-- there is a level for each leaf, and the references are the diagrams of the first nodes of the window
pub record AreDiagramsOver (g : List Node) (w : WindowParts) (S : Nodes) (refs : List Ref) : Type 0 where
  pub levels : S.levels ≡ w.cut
  pub each : (i n : ℕ) (r : Ref) → slice_get w.nodes i ≡ Some n → slice_get refs i ≡ Some r → IsDiagramOver g w S (node_literal n) r

-- a reference is the diagram of an operation on two literals over the leaves
abbrev pub IsOperationOver : List Node → WindowParts → Nodes → Op → Parts → Parts → Ref → Type 0
IsOperationOver g w S op a b r = HasRef S r × ((x y : List Bool) → length y ≡ S.levels
    → den S r y ≡ op_value op (value_over g (leaves_of w) x y a) (value_over g (leaves_of w) x y b))
