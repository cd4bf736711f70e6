-- Literals: a node of a graph, or its complement. Contracts see a literal as these two parts.
use Rattle.std.specs.Prelude.{ℕ, ◌+◌, ◌*◌, ◌/◌, ◌%◌, ◌==◌, Bool, true, false, not, if◌then◌else◌}

-- the number of a node, and whether the literal is its complement
pub record Parts : Type 0 where
  pub node : ℕ
  pub complemented : Bool

-- the word of a literal: bit 0 says whether it is a complement, the others are the node's number
abbrev pub word_of : Parts → ℕ
word_of l = l.node * 2 + (if l.complemented then 1 else 0)

-- the literal of a word
abbrev pub parts_of : ℕ → Parts
parts_of w = record { node = w / 2; complemented = w % 2 == 1 }

-- the two constants are node 0 and its complement
abbrev pub false_literal : Parts
false_literal = record { node = 0; complemented = false }

abbrev pub true_literal : Parts
true_literal = record { node = 0; complemented = true }

-- the complement
abbrev pub negated : Parts → Parts
negated l = record { node = l.node; complemented = not l.complemented }

-- the literal, complemented if b is true
abbrev pub complemented_if : Bool → Parts → Parts
complemented_if b l = if b then negated l else l

-- the literal of the same node that is not complemented
abbrev pub positive_of : Parts → Parts
positive_of l = record { node = l.node; complemented = false }

-- the literal of a node that is not complemented
abbrev pub node_literal : ℕ → Parts
node_literal n = record { node = n; complemented = false }
