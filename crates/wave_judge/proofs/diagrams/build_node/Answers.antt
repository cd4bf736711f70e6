use Rattle.std.proofs.Common.{length}
use Rattle.req_table.specs.declared.Op.TheVariants as ops
use Rattle.pair_graph.specs.Literals.{node_literal}
use Rattle.wave_judge.specs.OverLeaves.{IsDiagramOver, IsOperationOver}
use Rattle.wave_judge.proofs.Built.{IfOk_then, and-diagram, constant_above-diagram, xor-diagram}
use Rattle.wave_judge.proofs.diagrams.build_node.Goals as goal

pub returns-in-Constant-clause-built : goal.returns-in-Constant-clause-built
returns-in-Constant-clause-built g c =
    constant_above-diagram c.args.graph.now c.args.window.now c.args.store.now c.args.node (length c.args.refs.now) c.in-Constant.ensures.sound
    c.leaves.ensures.once c.requires.above c.requires.at c.in-Constant.ensures.value

pub returns-in-And-clause-built : goal.returns-in-And-clause-built
returns-in-And-clause-built g c =
    let graph = c.args.graph.now in
    let w = c.args.window.now in
    let T = c.build_operation.new.store in
    IfOk_then c.build_operation.result (λ r. IsOperationOver graph w T ops.And c.in-And.a c.in-And.b r) (λ r. IsDiagramOver graph w T (node_literal c.args.node) r)
    c.build_operation.ensures.built
    (λ r is. and-diagram graph w T c.args.node (length c.args.refs.now) c.in-And.a c.in-And.b r c.in-And.ensures.sound c.leaves.ensures.once
    c.requires.above c.requires.at c.in-And.ensures.value is)

pub returns-in-Xor-clause-built : goal.returns-in-Xor-clause-built
returns-in-Xor-clause-built g c =
    let graph = c.args.graph.now in
    let w = c.args.window.now in
    let T = c.build_operation-in-Xor.new.store in
    IfOk_then c.build_operation-in-Xor.result (λ r. IsOperationOver graph w T ops.Xor c.in-Xor.a c.in-Xor.b r)
    (λ r. IsDiagramOver graph w T (node_literal c.args.node) r) c.build_operation-in-Xor.ensures.built
    (λ r is. xor-diagram graph w T c.args.node (length c.args.refs.now) c.in-Xor.a c.in-Xor.b r c.in-Xor.ensures.sound c.leaves.ensures.once
    c.requires.above c.requires.at c.in-Xor.ensures.value is)
