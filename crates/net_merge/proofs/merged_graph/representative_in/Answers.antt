use Rattle.std.proofs.Common.{sym, subst}
use Rattle.pair_graph.specs.Literals.{Parts}
use Rattle.pair_graph.specs.Graphs.{AreEquivalent, HasNode}
use Rattle.net_merge.proofs.Representing.{representative-equivalent, representative-has}
use Rattle.net_merge.proofs.merged_graph.representative_in.Goals as goal

pub returns : goal.returns
returns c =
    let graph = c.args.graph.now in
    let representatives = c.args.representatives.now in
    let literal = c.args.literal in (
      subst (λ (l : Parts). AreEquivalent graph literal l) (sym c.of.ensures) (representative-equivalent graph representatives literal c.requires),
      λ has. subst (HasNode graph) (sym c.of.ensures) (representative-has graph representatives literal c.requires has),
    )
