use Rattle.std.proofs.lemmas.Result.{err_from_is_err_and}
use Rattle.net_bench.specs.Circuit.{circuit}
use Rattle.net_order.specs.Order.{condition}
use Rattle.order_search.proofs.Ordering.{refused_as_declared}
use Rattle.order_search.proofs.trials.paired_by.Goals as goal

pub returns-clause-paired : goal.returns-clause-paired
returns-clause-paired g c = (c.in_ok-order.order, c.in_ok-order.ensures.order, c.in_ok-pair.ensures.paired)

-- ---- no order

pub returns-in_err-order-clause-fault : goal.returns-in_err-order-clause-fault
returns-in_err-order-clause-fault g c = λ input ga.
    let task = c.args.task.now in
    let e = err_from_is_err_and c.from_residual.result c.from_residual.ensures.1 in
    rw (e.1, e.2) (circuit task.first.now, circuit task.second.now, condition task.given, ga, c.in_err-order.ensures.refused)

pub returns-in_err-order-clause-refused : goal.returns-in_err-order-clause-refused
returns-in_err-order-clause-refused g c =
    let e = err_from_is_err_and c.from_residual.result c.from_residual.ensures.1 in
    rw e.1 (c.in_err-order.field-0.0, e.2)

-- ---- no pairing

pub returns-in_err-pair-clause-fault : goal.returns-in_err-pair-clause-fault
returns-in_err-pair-clause-fault g c = λ input ga.
    let task = c.args.task.now in
    let e = err_from_is_err_and c.from_residual-in_err-pair.result c.from_residual-in_err-pair.ensures.1 in
    rw (e.1, e.2) (
      circuit task.first.now,
      circuit task.second.now,
      condition task.given,
      ga,
      refused_as_declared task.settings.now.matching (circuit task.first.now) (circuit task.second.now) (condition task.given) c.in_err-pair.field-0.0 c.in_ok-order.order c.in_ok-order.ensures.each_once c.in_err-pair.ensures.refused,
    )

pub returns-in_err-pair-clause-refused : goal.returns-in_err-pair-clause-refused
returns-in_err-pair-clause-refused g c =
    let e = err_from_is_err_and c.from_residual-in_err-pair.result c.from_residual-in_err-pair.ensures.1 in
    rw e.1 (c.in_err-pair.field-0.0, e.2)
