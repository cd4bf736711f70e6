use Rattle.std.proofs.Common.{inr}
use Rattle.order_search.proofs.Rounds.{given_up_for}
use Rattle.order_search.proofs.listed_attempt.try_pairing.Goals as goal

pub returns-then-has_stopped-clause-given_up : goal.returns-then-has_stopped-clause-given_up
returns-then-has_stopped-clause-given_up g c = λ _. inr (inr (c.has_stopped.ensures.stops c.if-has_stopped.true))

pub returns-clause-given_up : goal.returns-clause-given_up
returns-clause-given_up g c = λ _.
    given_up_for c.args.task.now c.args.budget (g.G.Monitor.bound c.args.monitor.now) c.args.pairing.now c.in_ok-give_up_reason-in-Err.field-0 c.in-Err.fault c.in-Err.ensures.fault
    c.in_ok-give_up_reason-in-Err.ensures.reason
