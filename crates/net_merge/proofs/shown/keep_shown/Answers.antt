use Rattle.std.proofs.Common.{List, sym, subst, rules}
use Rattle.std.specs.Prelude.{All, IsTrue}
use Rattle.std.proofs.lemmas.List.Elements.{All-push}
use Rattle.net_merge.specs.declared.shown.ShownPair.{ShownPair}
use Rattle.net_merge.specs.Merging.{IsShown}
use Rattle.net_merge.proofs.shown.keep_shown.Goals as goal

pub returns : goal.returns
returns c =
    let pair : ShownPair = record { first = c.in-Some.job.now.newer; second = c.in-Some.job.now.older } in
    let is_equal : IsTrue c.shows_equal-is_equal.result = search rules in
    subst (λ (shown : List ShownPair). All (IsShown c.args.graph.now) shown) (sym c.in_ok-push.ensures.items)
    (All-push (IsShown c.args.graph.now) c.args.shown.now.items pair c.requires.shown (c.shows_equal-is_equal.ensures is_equal))
