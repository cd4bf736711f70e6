use Rattle.std.proofs.Common.{◌≡◌}
use Rattle.std.proofs.lemmas.Result.{err_from_is_err_and}
use Rattle.net_bench.specs.Circuit.{circuit}
use Rattle.net_names.specs.declared.order.Order.TheVariants.{Declared}
use Rattle.net_names.specs.declared.order.OrderFault.TheVariants.{TooManyInputs}
use Rattle.net_order.specs.Order.{condition}
use Rattle.order_search.proofs.Namings.{naming_refused, naming_whole}
use Rattle.order_search.proofs.trials.named.Goals as goal

pub returns-in_err-naming_of-clause-fault : goal.returns-in_err-naming_of-clause-fault
returns-in_err-naming_of-clause-fault g c = λ input ga.
    let task = c.args.task.now in
    let e = err_from_is_err_and c.from_residual.result c.from_residual.ensures.1 in
    rw (e.1, e.2) (
      circuit task.first.now,
      circuit task.second.now,
      condition task.given,
      ga,
      naming_refused c.in_err-naming_of.field-0.0 task.settings.now.matching (circuit task.first.now) (circuit task.second.now) (condition task.given) Declared c.in_err-naming_of.ensures.refused,
    )

pub returns-in_err-naming_of-clause-refused : goal.returns-in_err-naming_of-clause-refused
returns-in_err-naming_of-clause-refused g c =
    let e = err_from_is_err_and c.from_residual.result c.from_residual.ensures.1 in
    rw e.1 (c.in_err-naming_of.field-0.0, e.2)

pub returns-in_err-naming_of-clause-any_number_of_inputs : goal.returns-in_err-naming_of-clause-any_number_of_inputs
returns-in_err-naming_of-clause-any_number_of_inputs g c = λ is.
    let task = c.args.task.now in
    let e = err_from_is_err_and c.from_residual.result c.from_residual.ensures.1 in
    let made = e.1 in
    let refused = e.2 in
    let same : c.in_err-naming_of.field-0.0 ≡ TooManyInputs = cc in
    naming_whole c.in_err-naming_of.field-0.0 task.settings.now.matching (circuit task.first.now) (circuit task.second.now) (condition task.given) Declared c.in_err-naming_of.ensures.refused same
