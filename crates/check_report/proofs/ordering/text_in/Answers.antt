use Rattle.std.proofs.Common.{◌∙◌, ap}
use Rattle.std.proofs.lemmas.Result.{err_from_is_err_and}
use Rattle.net_bench.specs.Circuit.{circuit}
use Rattle.net_order.specs.Order.{condition}
use Rattle.net_names.specs.OrderText.{order_text}
use Rattle.order_search.proofs.Rounds.{accepted_paired, memory_ends, order_ends}
use Rattle.check_report.proofs.ordering.text_in.Goals as goal

pub returns-in_err-pairing-clause-fault : goal.returns-in_err-pairing-clause-fault
returns-in_err-pairing-clause-fault g c = λ input ga.
    let e = err_from_is_err_and c.from_residual.result c.from_residual.ensures.1 in
    rw (e.1, e.2) (c.in_err-pairing.ensures.fault input ga)

pub returns-in_err-pairing-clause-ends : goal.returns-in_err-pairing-clause-ends
returns-in_err-pairing-clause-ends g c =
    let e = err_from_is_err_and c.from_residual.result c.from_residual.ensures.1 in
    rw (e.1, e.2) (order_ends c.in_err-pairing.field-0.0 c.in_err-pairing.ensures.refused.0 c.in_err-pairing.ensures.refused.1)

pub returns-clause-text : goal.returns-clause-text
returns-clause-text g c = λ input ga. record {
  a = circuit c.args.task.now.first.now;
  b = circuit c.args.task.now.second.now;
  c = condition c.args.task.now.given;
  p = c.in_ok-pairing.pairing;
  paired = record { netlists = ga; pairing = c.in_ok-pairing.ensures.paired };
  text = c.in_ok-text.ensures ∙ ap order_text c.names.ensures.value;
}

pub returns-in_err-text-clause-fault : goal.returns-in_err-text-clause-fault
returns-in_err-text-clause-fault g c = λ input ga.
    let e = err_from_is_err_and c.from_residual-in_err-text.result c.from_residual-in_err-text.ensures.1 in
    rw (e.1, e.2) (accepted_paired c.args.task.now input ga c.args.task.now.settings.now.order c.args.order.now c.in_ok-pairing.pairing c.in_ok-pairing.ensures.paired)

pub returns-in_err-text-clause-ends : goal.returns-in_err-text-clause-ends
returns-in_err-text-clause-ends g c =
    let e = err_from_is_err_and c.from_residual-in_err-text.result c.from_residual-in_err-text.ensures.1 in
    rw (e.1, e.2) memory_ends
