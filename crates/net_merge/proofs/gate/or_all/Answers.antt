use Rattle.std.proofs.Common.{not, sym, ap, ◌∙◌}
use Rattle.pair_graph.specs.Graphs.{value}
use Rattle.net_merge.proofs.Folding.{some_one-not}
use Rattle.net_merge.proofs.gate.or_all.Goals as goal

pub returns-clause-value : goal.returns-clause-value
returns-clause-value g c = λ x.
    c.negate.ensures.meaning c.and_all.new.graph x ∙ ap not (c.in_ok-none.ensures.value x) ∙
    sym (some_one-not (value c.args.graph.now x) c.args.operands.now)
