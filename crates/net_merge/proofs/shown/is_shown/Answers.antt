use Rattle.std.proofs.Common.{arith, sym, subst}
use Rattle.pair_graph.specs.Literals.{Parts}
use Rattle.pair_graph.specs.Graphs.{AreEquivalent}
use Rattle.net_merge.specs.declared.shown.ShownPair.{ShownPair}
use Rattle.net_merge.specs.Merging.{IsShown}
use Rattle.net_merge.proofs.shown.is_shown.Goals as goal

pub returns : goal.returns
returns c = λ yes.
    let graph = c.args.graph.now in
    let pair = c.index-shown-place.result in
    let past = c.if-place-shown.false in
    let shown : IsShown graph pair =
    subst (λ (p : ShownPair). IsShown graph p) (sym c.index-shown-place.is) (c.requires c.args.place pair (omega (arith, past))) in
    subst (λ (l : Parts). AreEquivalent graph l c.args.second) (c.is_of.ensures yes).0
    (subst (λ (l : Parts). AreEquivalent graph pair.first l) (c.is_of.ensures yes).1 shown)
