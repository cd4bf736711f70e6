-- The computed table: what it holds, when that is right for a store, and what an operation comes to by it.
use Rattle.std.specs.Prelude.{◌≡◌, ℕ, ◌-◌, Bool, List, ◌∷◌, take, Contains, Option, Some, None, ◌⊎◌}
use Rattle.std.specs.Map.{lookup, remove_entry}
use Rattle.std.specs.Option.{option_map}
use Rattle.dd_store.specs.Complements.{complement_by}
use Rattle.dd_store.specs.declared.reference.Ref.{Ref}
use Rattle.dd_store.specs.Nodes.{Nodes, IsDiagram, den}
use Rattle.dd_store.specs.View.{Has}
use Rattle.req_table.specs.declared.Op.{Op}
use Rattle.req_table.specs.declared.Key.{Key}
use Rattle.req_table.specs.contracts.KeyPartialEq.TheImpl.{eq-value}
use Rattle.req_table.specs.TerminalCase.{terminal_of, op_value}
use Rattle.req_table.specs.Keys.{normal_of, meaning}

-- keys with their answers, the pair that was kept last first, and the greatest number of pairs
pub record ComputedView : Type 0 where
  pub pairs : List (Key × Ref)
  pub capacity : ℕ

-- the answer that is held for a key
abbrev pub computed_answer : ComputedView → Key → Option Ref
computed_answer m k = lookup (eq-value.it k) m.pairs

-- the pairs that remain after a new first pair: all but the old pair of its key, or all but the last of a full table
abbrev pub rest : ComputedView → Key → Option Ref → List (Key × Ref)
rest m k (Some r) = remove_entry (eq-value.it k) m.pairs
rest m k None = take (m.capacity - 1) m.pairs

-- the computed table with a pair put first
abbrev pub with_first : ComputedView → Key → Ref → ComputedView
with_first m k r = record { pairs = (k, r) ∷ rest m k (computed_answer m k); capacity = m.capacity }

-- a pair was kept: it is first; or memory was refused, the key is not held, and nothing has changed
abbrev pub KeepsAnswer : ComputedView → Key → Ref → ComputedView → Type 0
KeepsAnswer old k r new = (new ≡ with_first old k r) ⊎ ((computed_answer old k ≡ None) × (new ≡ old))

-- r is the diagram, in the store, of the key's operation on the functions of its operands
pub record IsAnswerOf (S : Nodes) (k : Key) (r : Ref) : Type 0 where
  pub first : Has S k.f
  pub second : Has S k.g
  pub diagram : IsDiagram S r (meaning S k)

-- a computed table is right for a store: each answer that it holds is that of its key
abbrev pub IsRight : Nodes → ComputedView → Type 0
IsRight S m = (k : Key) (r : Ref) → Contains m.pairs (k, r) → IsAnswerOf S k r

-- r is the diagram of the operation on the functions of f and g
abbrev pub IsValueOf : Nodes → Op → Ref → Ref → Ref → Type 0
IsValueOf S op f g r = IsDiagram S r (λ x. op_value op (den S f x) (den S g x))

-- a terminal case, or else what is held for the request, complemented if the operation's answer is
abbrev pub or_computed : ComputedView → Key × Bool → Option Ref → Option Ref
or_computed m n (Some r) = Some r
or_computed m n None = option_map (complement_by n.1) (computed_answer m n.0)

-- the answer of an operation that has a terminal case or is held
abbrev pub terminal_or_computed_of : ComputedView → Op → Ref → Ref → Option Ref
terminal_or_computed_of m op f g = or_computed m (normal_of op f g) (terminal_of op f g)
