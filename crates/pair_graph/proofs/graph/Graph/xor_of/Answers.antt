use Rattle.std.proofs.Common.{ap, sym, subst, ◌∙◌}
use Rattle.pair_graph.specs.Graphs.{HasNode, node_value, value}
use Rattle.pair_graph.specs.Literals.{Parts}
use Rattle.pair_graph.proofs.Operations.{value-xor}
use Rattle.pair_graph.proofs.Values.{value-false}
use Rattle.pair_graph.proofs.graph.Graph.xor_of.Goals as goal

pub returns-in-Some-clause-value : goal.returns-in-Some-clause-value
returns-in-Some-clause-value c = λ x.
    c.in-Some.ensures.value (node_value c.args.self.now x) (value-false c.args.self.now c.len.ensures.sound x)

pub returns-clause-value : goal.returns-clause-value
returns-clause-value c = λ x.
    ap (λ (l : Parts). value c.add.new.self x l) c.new.ensures ∙
    value-xor c.args.self.now c.add.new.self c.len.ensures.sound c.in_ok-place.ensures.sound c.in_ok-place.ensures.keeps x
    c.args.first c.args.second c.positive.result c.positive-2.result c.in_order-low.result c.in_ok-place.place c.one_complemented.result
    c.requires.first c.requires.second c.positive.ensures c.positive-2.ensures c.in_order-low.ensures c.in_ok-place.ensures.place
    c.one_complemented.ensures

pub returns-clause-has : goal.returns-clause-has
returns-clause-has c = subst (λ (l : Parts). HasNode c.add.new.self l) (sym c.new.ensures) c.in_ok-place.ensures.low
