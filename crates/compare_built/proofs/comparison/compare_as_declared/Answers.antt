use Rattle.std.proofs.Common.{◌∙◌}
use Rattle.net_bench.specs.Circuit.{circuit}
use Rattle.net_order.specs.Order.{condition}
use Rattle.compare_built.proofs.Rearranging.{apart, compared_arranged, order_arranged}
use Rattle.compare_built.proofs.comparison.compare_as_declared.Goals as goal

pub arrangement-requires : goal.arrangement-requires
arrangement-requires g c =
    apart c.args.task.now.settings.now.matching (circuit c.args.task.now.first.now) (circuit c.args.task.now.second.now) (condition c.args.task.now.given)
    c.args.pairing.now c.args.declared.now c.requires.paired

pub verdicts_in-requires-clause-compared : goal.verdicts_in-requires-clause-compared
verdicts_in-requires-clause-compared g c =
    compared_arranged c.args.task.now.settings.now.matching (circuit c.args.task.now.first.now) (circuit c.args.task.now.second.now) (condition c.args.task.now.given)
    c.args.pairing.now c.args.declared.now c.requires.paired c.in_ok-store.store c.in_ok-store.shown.subjects.items c.in_ok-store.shown.references.items c.in_ok-store.ensures.compared
    c.as_slice.result.now (c.as_slice.ensures.value ∙ c.in_ok-order.ensures)

pub verdicts_in-requires-clause-order : goal.verdicts_in-requires-clause-order
verdicts_in-requires-clause-order g c =
    order_arranged c.args.task.now.settings.now.matching (circuit c.args.task.now.first.now) (circuit c.args.task.now.second.now) (condition c.args.task.now.given)
    c.args.pairing.now c.args.declared.now c.requires.paired c.in_ok-store.store c.in_ok-store.shown.subjects.items c.in_ok-store.shown.references.items c.in_ok-store.ensures.compared
    c.as_slice.result.now (c.as_slice.ensures.value ∙ c.in_ok-order.ensures)
