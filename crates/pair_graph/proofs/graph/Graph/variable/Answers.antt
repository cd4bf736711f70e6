use Rattle.std.proofs.Common.{ap, sym, subst, ◌∙◌}
use Rattle.pair_graph.specs.Graphs.{HasNode, value}
use Rattle.pair_graph.specs.Literals.{Parts}
use Rattle.pair_graph.proofs.Operations.{value-variable}
use Rattle.pair_graph.proofs.graph.Graph.variable.Goals as goal

pub returns-clause-value : goal.returns-clause-value
returns-clause-value c = λ x.
    ap (λ (l : Parts). value c.add.new.self x l) c.new.ensures ∙
    value-variable c.add.new.self c.in_ok-place.ensures.sound c.in_ok-place.place c.args.number c.in_ok-place.ensures.place x

pub returns-clause-has : goal.returns-clause-has
returns-clause-has c = subst (λ (l : Parts). HasNode c.add.new.self l) (sym c.new.ensures) c.in_ok-place.ensures.low
