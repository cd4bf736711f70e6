-- Trivial cases: operations whose literal needs no node.
use Rattle.std.specs.Prelude.{◌≡◌, ℕ, ◌<◌, Bool, false, ◌&&◌}
use Rattle.pair_graph.specs.Literals.{Parts}
use Rattle.pair_graph.specs.Graphs.{literal_value}

-- both of two values are 1
abbrev pub conjunction : Bool → Bool → Bool
conjunction a b = a && b

-- a literal has the operation's value whatever values nodes have, if the constant has 0; and its node is the constant
-- or one of the operands'
pub record IsTrivial (operation : Bool → Bool → Bool) (a b l : Parts) : Type 0 where
  pub value : (f : ℕ → Bool) → f 0 ≡ false → literal_value f l ≡ operation (literal_value f a) (literal_value f b)
  pub below : (n : ℕ) → 0 < n → a.node < n → b.node < n → l.node < n
