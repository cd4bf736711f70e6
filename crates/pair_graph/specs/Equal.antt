-- The derived `==` of literals, and of nodes, holds of equal ones only.
use Rattle.std.proofs.Common.{◌≡◌, true, refl, sym, arith, true≢false}
use Rattle.std.proofs.lemmas.Bool.Decides.{nat_tests}
use Rattle.pair_graph.specs.Literals.{Parts}
use Rattle.pair_graph.specs.LiteralLaws.{one_word}
use Rattle.pair_graph.specs.declared.node.Node.{Node}
use Rattle.pair_graph.specs.declared.node.Node.TheVariants.{Constant, Variable, And, Xor}
use Rattle.pair_graph.specs.contracts.literal.LiteralPartialEq.TheImpl.{eq-value as literal_eq}
use Rattle.pair_graph.specs.contracts.node.NodePartialEq.TheImpl.{eq-value as node_eq}

pub literal_same : (a b : Parts) → literal_eq.it a b ≡ true → a ≡ b
literal_same a b e = one_word a b (grind (arith, nat_tests))

pub node_same : (a b : Node) → node_eq.it a b ≡ true → a ≡ b
node_same Constant Constant e = refl
node_same (Variable v) (Variable w) e = let same : v ≡ w = grind (arith, nat_tests) in λ i. Variable (same i)
node_same (And a b) (And c d) e =
    let first : a ≡ c = literal_same a c (grind arith) in
    let second : b ≡ d = literal_same b d (grind arith) in
    λ i. And (first i) (second i)
node_same (Xor a b) (Xor c d) e =
    let first : a ≡ c = literal_same a c (grind arith) in
    let second : b ≡ d = literal_same b d (grind arith) in
    λ i. Xor (first i) (second i)
node_same a b e = absurd (true≢false (sym e))
