use Rattle.std.proofs.Common.{List, sym, subst}
use Rattle.std.specs.Prelude.{All}
use Rattle.std.proofs.lemmas.List.Elements.{All-nil}
use Rattle.net_merge.specs.declared.shown.ShownPair.{ShownPair}
use Rattle.net_merge.specs.Merging.{IsShown}
use Rattle.net_merge.proofs.merger.Merger.show_wanted.Goals as goal

pub loop-init : goal.loop-init
loop-init g c =
    subst (λ (pairs : List ShownPair). All (IsShown c.args.graph.now) pairs) (sym c.new-shown.ensures.items) (All-nil (IsShown c.args.graph.now))
