-- Terminal cases, the form of requests, and owners: what an operation comes to, with complement edges.
use Rattle.std.specs.Prelude.{◌≡◌, ℕ, ◌+◌, ◌*◌, ◌%◌, Bool, true, false, cond, ◌&&◌, ◌||◌, Option, Some, None, not}
use Rattle.std.specs.Option.{option_map}
use Rattle.dd_store.specs.declared.reference.Ref.{Ref}
use Rattle.dd_store.specs.declared.reference.Reference.TheVariants.{False, True, Node}
use Rattle.dd_store.specs.Hashes.{ref_hash_of}
use Rattle.dd_store.specs.Complements.{is_complement, negate_of, complement_by, complemented}
pub use Rattle.dd_store.specs.Order.{node_eq, node_lt, ref_lt}
use Rattle.req_table.specs.declared.Op.{Op}
use Rattle.req_table.specs.declared.Op.TheVariants.{And, Or, Xor, Nand, Nor, Xnor}
pub use Rattle.req_table.specs.declared.Operation.{Operation}

-- an operation on two references
abbrev pub key : Op → Ref → Ref → Operation
key op f g = record { op = op; f = f; g = g }

-- a reference without its complement bit
abbrev pub regular_of : Ref → Ref
regular_of r = complement_by (is_complement r) r

-- an operation by And and Xor, and whether its answer is the complement of that one's; the operands of Xor lose their
-- complement bits
abbrev pub form_of : Op → Ref → Ref → Operation × Bool
form_of And f g = (key And f g, false)
form_of Or f g = (key And (negate_of f) (negate_of g), true)
form_of Xor f g = (key Xor (regular_of f) (regular_of g), complemented (is_complement f) (is_complement g))
form_of Nand f g = (key And f g, true)
form_of Nor f g = (key And (negate_of f) (negate_of g), false)
form_of Xnor f g = (key Xor (regular_of f) (regular_of g), not (complemented (is_complement f) (is_complement g)))

-- the answer of And if an operand is a terminal, or if both are one node: this node, or False if one of them is the
-- complement of the other
abbrev pub terminal_and : Ref → Ref → Option Ref
terminal_and False g = Some False
terminal_and True g = Some g
terminal_and (Node a b) False = Some False
terminal_and (Node a b) True = Some (Node a b)
terminal_and (Node a b) (Node c d) = cond (node_eq a c) (Some (cond (complemented b d) False (Node a b))) None

-- the answer of Xor if an operand is a terminal, or if both are one node: False, or True if one of them is the
-- complement of the other
abbrev pub terminal_xor : Ref → Ref → Option Ref
terminal_xor False g = Some g
terminal_xor True g = Some (negate_of g)
terminal_xor (Node a b) False = Some (Node a b)
terminal_xor (Node a b) True = Some (Node a (not b))
terminal_xor (Node a b) (Node c d) = cond (node_eq a c) (Some (cond (complemented b d) True False)) None

-- the terminal case of And or Xor, if it has one
abbrev pub terminal_at : Operation → Option Ref
terminal_at k = elim k.op [ And ↦ terminal_and k.f k.g | Or ↦ None | Xor ↦ terminal_xor k.f k.g | Nand ↦ None | Nor ↦ None | Xnor ↦ None ]

-- the terminal case of an operation, if it has one
abbrev pub terminal_of : Op → Ref → Ref → Option Ref
terminal_of op f g = option_map (complement_by (form_of op f g).1) (terminal_at (form_of op f g).0)

-- the operands in order
abbrev pub in_order : Operation → Operation
in_order k = cond (ref_lt k.g k.f) (key k.op k.g k.f) k

-- the request of an operation, and whether the operation's answer is the complement of the request's
abbrev pub normal_of : Op → Ref → Ref → Operation × Bool
normal_of op f g = (in_order (form_of op f g).0, (form_of op f g).1)

-- the number of an operation, by which owners are found
abbrev pub op_number : Op → ℕ
op_number And = 0
op_number Or = 1
op_number Xor = 2
op_number Nand = 3
op_number Nor = 4
op_number Xnor = 5

-- the owner, of m workers, of an operation on two references
abbrev pub owner_of : Op → Ref → Ref → ℕ → ℕ
owner_of op f g m = (op_number op + 3 * ref_hash_of f + 5 * ref_hash_of g) % m

-- the value of a Boolean operation
abbrev pub op_value : Op → Bool → Bool → Bool
op_value And a b = a && b
op_value Or a b = a || b
op_value Xor true b = not b
op_value Xor false b = b
op_value Nand a b = not (a && b)
op_value Nor a b = not (a || b)
op_value Xnor true b = b
op_value Xnor false b = not b

-- an evaluation of references in which the terminals have their values, and a complement has the complemented value
pub record IsValue (den : Ref → Bool) : Type 0 where
  pub at_false : den False ≡ false
  pub at_true : den True ≡ true
  pub at_complement : (r : Ref) → den (negate_of r) ≡ not (den r)
