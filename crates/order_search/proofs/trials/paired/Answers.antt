use Rattle.std.proofs.Common.{◌≡◌}
use Rattle.std.proofs.lemmas.Result.{err_from_is_err_and}
use Rattle.net_bench.specs.Circuit.{circuit}
use Rattle.net_names.specs.declared.order.OrderFault.TheVariants.{TooManyInputs}
use Rattle.net_order.specs.Order.{condition}
use Rattle.order_search.proofs.Namings.{many_refused}
use Rattle.order_search.proofs.trials.paired.Goals as goal

pub returns-in_err-pair-clause-fault : goal.returns-in_err-pair-clause-fault
returns-in_err-pair-clause-fault g c = λ input ga.
    let task = c.args.task.now in
    let e = err_from_is_err_and c.from_residual.result c.from_residual.ensures.1 in
    rw (e.1, e.2) (circuit task.first.now, circuit task.second.now, condition task.given, ga, c.in_err-pair.ensures.refused)

pub returns-in_err-pair-clause-refused : goal.returns-in_err-pair-clause-refused
returns-in_err-pair-clause-refused g c =
    let e = err_from_is_err_and c.from_residual.result c.from_residual.ensures.1 in
    rw e.1 (c.in_err-pair.field-0.0, e.2)

pub returns-in_err-pair-clause-many : goal.returns-in_err-pair-clause-many
returns-in_err-pair-clause-many g c = λ is.
    let task = c.args.task.now in
    let e = err_from_is_err_and c.from_residual.result c.from_residual.ensures.1 in
    let made = e.1 in
    let refused = e.2 in
    let same : c.in_err-pair.field-0.0 ≡ TooManyInputs = cc in
    many_refused c.in_err-pair.field-0.0 task.settings.now.matching (circuit task.first.now) (circuit task.second.now) (condition task.given) c.args.order.now c.in_err-pair.ensures.refused same
