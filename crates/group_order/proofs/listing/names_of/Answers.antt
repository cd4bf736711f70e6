use Rattle.std.proofs.Common.{◌∙◌, ◌++◌, ◌∷◌, [], List, ℕ, ap, sym, get_or, take}
use Rattle.net_order.specs.Order.{numbered}
use Rattle.net_order.proofs.Named.{same_item}
use Rattle.group_order.proofs.Lists.{listed_more}
use Rattle.group_order.proofs.listing.names_of.Goals as goal

pub loop-number-preserved : goal.loop-number-preserved
loop-number-preserved c =
    let i = c.loop-number.number-index in
    let v = get_or c.args.numbers.now c.loop-number.number-index 0 in
    c.in_ok-push_name.ensures ∙ ap (λ (ns : List (List ℕ)). ns ++ c.in_ok-name.name.items ∷ []) c.loop-number.invariant ∙
    ap (λ (n : List ℕ). numbered c.args.names.now (take i c.args.numbers.now) ++ n ∷ []) c.in_ok-name.ensures.items ∙
    sym (listed_more c.args.names.now c.args.numbers.now i v c.at.result.now c.loop-number-test.true (same_item c.args.numbers.now i 0 v c.loop-number-test.true) c.at.ensures)
