use Rattle.std.proofs.Common.{◌∙◌, get_or, sym, []}
use Rattle.std.specs.Prelude.{slice_index_or}
use Rattle.std.proofs.lemmas.Option.{get_or_from_slice_get}
use Rattle.net_order.proofs.Named.{one_more, same_item}
use Rattle.net_order.proofs.interleave.add_variables.Goals as goal

pub loop-variable-preserved : goal.loop-variable-preserved
loop-variable-preserved c =
    let v = get_or c.args.order.now c.loop-variable.variable-index 0 in
    one_more (λ k. slice_index_or c.args.variables.now k []) c.args.order.now c.loop-variable.variable-index v c.name.result.now c.loop-variable.table c.intern.new.self
    c.loop-variable-test.true (same_item c.args.order.now c.loop-variable.variable-index 0 v c.loop-variable-test.true) (sym (get_or_from_slice_get c.args.variables.now v c.name.result.now [] c.name.ensures))
    c.in_ok-intern.ensures.added ∙ c.loop-variable.invariant
