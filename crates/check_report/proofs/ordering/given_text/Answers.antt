use Rattle.std.proofs.lemmas.Result.{err_from_is_err_and}
use Rattle.check_report.proofs.ordering.given_text.Goals as goal

pub returns-clause-text : goal.returns-clause-text
returns-clause-text g c = λ input ga. (c.args.order.now, c.in_ok-text.ensures.text input ga, c.requires.untried input ga)

pub returns-in_err-text-clause-fault : goal.returns-in_err-text-clause-fault
returns-in_err-text-clause-fault g c = λ input ga.
    let e = err_from_is_err_and c.from_residual.result c.from_residual.ensures.1 in
    rw (e.1, e.2) (c.args.order.now, c.requires.cause, c.in_err-text.ensures.fault input ga)

pub returns-in_err-text-clause-ends : goal.returns-in_err-text-clause-ends
returns-in_err-text-clause-ends g c =
    let e = err_from_is_err_and c.from_residual.result c.from_residual.ensures.1 in
    rw (e.1, e.2) c.in_err-text.ensures.ends
