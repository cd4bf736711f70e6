use Rattle.std.proofs.Common.{◌++◌, ◌∙◌, ap, append_assoc, sym, take}
use Rattle.std.specs.Prelude.{filter_map, option_to_list}
use Rattle.net_explain.specs.Explaining.{inner_at}
use Rattle.net_explain.proofs.Inners.{filter_more}
use Rattle.net_explain.proofs.differing.add_row.Goals as goal

pub loop-place-preserved : goal.loop-place-preserved
loop-place-preserved c =
    let h = inner_at c.args.first.now c.args.second.now c.args.seen.now c.args.other.now in
    c.in_ok-add.ensures ∙ ap (λ z. z ++ option_to_list c.inner_at.result) c.loop-place.invariant ∙
    append_assoc c.args.found.now.items (filter_map h (take c.loop-place.place c.args.row.now)) (option_to_list c.inner_at.result) ∙
    ap (λ z. c.args.found.now.items ++ z) (sym (filter_more h c.args.row.now c.loop-place.place c.index-row-place.result c.inner_at.result c.loop-place-test.true c.index-row-place.is c.inner_at.ensures))
