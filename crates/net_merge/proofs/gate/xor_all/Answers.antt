use Rattle.std.proofs.Common.{false, map, take, arith}
use Rattle.net_bench.specs.Labels.{odd}
use Rattle.pair_graph.specs.Graphs.{HasNode, exclusive_or, value}
use Rattle.pair_graph.proofs.Values.{KeepsNodes-has, value-keeps}
use Rattle.net_merge.proofs.Folding.{at_place, fold-none, fold-step, odd-next}
use Rattle.net_merge.proofs.gate.xor_all.Goals as goal

pub loop-operand-init : goal.loop-operand-init
loop-operand-init g c = fold-none c.args.graph.now c.len.ensures.sound false

pub xor_of-requires-clause-second : goal.xor_of-requires-clause-second
xor_of-requires-clause-second g c κs within =
    let old = c.args.graph.now in
    let o = c.operand-item.result in
    let had : HasNode old o = at_place (HasNode old) c.args.operands.now c.loop-operand.operand-index o c.requires.operands (omega arith) c.operand-item.is in
    KeepsNodes-has old c.loop-operand.graph c.loop-operand.invariant.keeps o.node had

pub loop-operand-preserved : goal.loop-operand-preserved
loop-operand-preserved g c =
    let old = c.args.graph.now in
    let xs = c.args.operands.now in
    let i = c.loop-operand.operand-index in
    let o = c.operand-item.result in
    let had : HasNode old o = at_place (HasNode old) xs i o c.requires.operands (omega arith) c.operand-item.is in
    fold-step exclusive_or old c.loop-operand.graph c.xor_of.new.self c.loop-operand.answer c.in_ok-answer.answer o
    (λ x. odd (map (value old x) (take i xs))) (λ x. value old x o) _ c.loop-operand.invariant c.in_ok-answer.ensures.sound c.in_ok-answer.ensures.keeps
    c.in_ok-answer.ensures.has c.in_ok-answer.ensures.value
    (λ x. value-keeps old c.len.ensures.sound.ordered x c.loop-operand.graph c.loop-operand.invariant.keeps o had)
    (λ x. odd-next (value old x) xs i o (omega arith) c.operand-item.is)
