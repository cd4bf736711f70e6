use Rattle.std.proofs.Common.{◌≡◌, true}
use Rattle.pair_graph.proofs.Operations.{value-nand}
use Rattle.pair_graph.proofs.graph.Graph.nand_operands.Goals as goal

pub returns-in-And-clause-value : goal.returns-in-And-clause-value
returns-in-And-clause-value c = λ x.
    let complemented : c.args.literal.complemented ≡ true = cc in
    value-nand c.args.self.now c.len.ensures.sound x c.args.literal c.in-And.p c.in-And.q c.node.result c.node.ensures.value complemented c.in-And.ensures.value
