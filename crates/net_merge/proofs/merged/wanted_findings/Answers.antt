use Rattle.std.proofs.Common.{List, sym, subst, ◌∙◌}
use Rattle.std.specs.Prelude.{All}
use Rattle.std.specs.List.{AllZip}
use Rattle.pair_graph.specs.declared.node.Node.{Node}
use Rattle.net_merge.specs.declared.shown.ShownPair.{ShownPair}
use Rattle.net_merge.specs.Merging.{IsShown}
use Rattle.net_merge.specs.SignalLiterals.{IsPairFinding}
use Rattle.net_merge.proofs.merged.wanted_findings.Goals as goal

pub pair_findings-requires : goal.pair_findings-requires
pair_findings-requires g c =
    subst (λ (h : List Node). All (IsShown h) c.as_slice-pairs.result.now) (sym c.graph-nodes.ensures)
    (subst (λ (pairs : List ShownPair). All (IsShown c.show_wanted.new.self) pairs) (sym c.as_slice-pairs.ensures.value) c.in_ok-shown.ensures.shown)

pub returns-clause-found : goal.returns-clause-found
returns-clause-found g c =
    subst (λ (h : List Node). AllZip (IsPairFinding h c.args.firsts.now c.args.seconds.now) c.args.wanted.now c.in_ok-found.found.items)
    (c.graph-nodes.ensures ∙ c.in_ok-shown.ensures.unchanged) c.in_ok-found.ensures
