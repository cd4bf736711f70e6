-- The two words of which a node's hash is made. Proofs know of them only that equal nodes have equal ones.
use Rattle.std.specs.Prelude.{ℕ, ◌+◌, ◌^◌}
use Rattle.slot_table.specs.Mixing.{mix_of}
use Rattle.pair_graph.specs.declared.node.Node.{Node}
use Rattle.pair_graph.specs.declared.node.Node.TheVariants.{Constant, Variable, And, Xor}
use Rattle.pair_graph.specs.Literals.{word_of}

abbrev pub slot_hash_of : Node → ℕ
slot_hash_of Constant = mix_of 0 0
slot_hash_of (Variable v) = mix_of 1 v
slot_hash_of (And a b) = mix_of (2 ^ 32 + word_of a) (word_of b)
slot_hash_of (Xor a b) = mix_of (2 ^ 33 + word_of a) (word_of b)
