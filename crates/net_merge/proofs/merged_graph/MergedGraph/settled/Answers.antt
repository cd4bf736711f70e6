use Rattle.std.proofs.Common.{List, subst}
use Rattle.pair_graph.specs.declared.node.Node.{Node}
use Rattle.net_merge.specs.Merging.{IsSettled}
use Rattle.net_merge.proofs.merged_graph.MergedGraph.settled.Goals as goal

pub returns-clause-settled : goal.returns-clause-settled
returns-clause-settled g c =
    subst (λ (h : List Node). IsSettled h c.args.literal c.representative-answer.result) c.in_ok-try_waiting.ensures c.representative-answer.ensures
