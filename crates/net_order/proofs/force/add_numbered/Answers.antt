use Rattle.std.proofs.Common.{◌∙◌, get_or, []}
use Rattle.std.specs.Prelude.{slice_index_or}
use Rattle.std.proofs.lemmas.List.{get_or_default}
use Rattle.net_order.proofs.Named.{one_more, same_item}
use Rattle.net_order.proofs.force.add_numbered.Goals as goal

pub loop-number-preserved : goal.loop-number-preserved
loop-number-preserved c =
    let i = c.loop-number.number-index in
    let v = get_or c.args.numbers.now c.loop-number.number-index 0 in
    one_more (λ k. slice_index_or c.args.names.now k []) c.args.numbers.now c.loop-number.number-index v c.name_at.result.now c.loop-number.table c.intern.new.self
    c.loop-number-test.true (same_item c.args.numbers.now i 0 v c.loop-number-test.true)
    (c.name_at.ensures ∙ get_or_default c.args.names.now v c.name_at.result.now [] (c.requires i 0 c.loop-number-test.true)) c.in_ok-intern.ensures.added ∙ c.loop-number.invariant
