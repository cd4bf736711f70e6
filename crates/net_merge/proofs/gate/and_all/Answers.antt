use Rattle.std.proofs.Common.{◌&&◌, Bool, true, List, map, take, arith}
use Rattle.net_bench.specs.Labels.{all_ones}
use Rattle.pair_graph.specs.Literals.{Parts}
use Rattle.pair_graph.specs.Graphs.{HasNode, inverted_if, value}
use Rattle.net_merge.proofs.Folding.{at_place, complemented_has, complemented_value, fold-none, fold-step, ones-next}
use Rattle.net_merge.proofs.gate.and_all.Goals as goal

pub loop-operand-init : goal.loop-operand-init
loop-operand-init g c = fold-none c.args.graph.now c.len.ensures.sound true

pub and_of-requires-clause-second : goal.and_of-requires-clause-second
and_of-requires-clause-second g c κs within =
    let old = c.args.graph.now in
    let xs = c.args.operands.now in
    let had : HasNode old c.operand-item.result = at_place (HasNode old) xs c.loop-operand.operand-index c.operand-item.result c.requires.operands (omega arith) c.operand-item.is in
    complemented_has old c.loop-operand.graph c.loop-operand.invariant.keeps c.args.complemented c.operand-item.result c.complement_if.result had c.complement_if.ensures

pub loop-operand-preserved : goal.loop-operand-preserved
loop-operand-preserved g c =
    let old = c.args.graph.now in
    let xs = c.args.operands.now in
    let i = c.loop-operand.operand-index in
    let o = c.operand-item.result in
    let f : Parts → List Bool → Bool = λ p x. inverted_if c.args.complemented (value old x p) in
    let had : HasNode old o = at_place (HasNode old) xs i o c.requires.operands (omega arith) c.operand-item.is in
    fold-step (λ (a b : Bool). a && b) old c.loop-operand.graph c.and_of.new.self c.loop-operand.answer c.in_ok-answer.answer c.complement_if.result
    (λ x. all_ones (map (λ p. f p x) (take i xs))) (f o) _ c.loop-operand.invariant c.in_ok-answer.ensures.sound c.in_ok-answer.ensures.keeps
    c.in_ok-answer.ensures.has c.in_ok-answer.ensures.value
    (λ x. complemented_value old c.loop-operand.graph c.len.ensures.sound c.loop-operand.invariant.keeps x c.args.complemented o c.complement_if.result had c.complement_if.ensures)
    (λ x. ones-next (λ p. f p x) xs i o (omega arith) c.operand-item.is)
