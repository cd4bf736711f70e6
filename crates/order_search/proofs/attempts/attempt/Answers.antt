use Rattle.std.proofs.Common.{subst, sym}
use Rattle.std.proofs.lemmas.Result.{err_from_is_err_and}
use Rattle.order_search.specs.Trials.{IsCandidateFault}
use Rattle.order_search.proofs.Rounds.{attempt_bound, trial_cause, was_given_up, was_stopped}
use Rattle.order_search.proofs.attempts.attempt.Goals as goal

pub returns-then-has_stopped-clause-ended : goal.returns-then-has_stopped-clause-ended
returns-then-has_stopped-clause-ended g c =
    was_stopped c.args.task.now c.args.budget (g.G.Monitor.bound c.args.monitor.now) c.args.trial.now.pairing (c.has_stopped.ensures.stops c.if-has_stopped.true)

pub returns-in_ok-reason-in-Err-clause-ended : goal.returns-in_ok-reason-in-Err-clause-ended
returns-in_ok-reason-in-Err-clause-ended g c =
    was_given_up c.args.task.now c.args.budget (g.G.Monitor.bound c.args.monitor.now) c.args.trial.now.pairing c.in_ok-reason-in-Err.reason c.is_for_nodes-full.result c.in-Err.fault c.in-Err.ensures.fault
    c.in_ok-reason-in-Err.ensures.reason c.is_for_nodes-full.ensures.nodes c.is_for_nodes-full.ensures.others

pub returns-in_err-reason-in-Err-clause-fault : goal.returns-in_err-reason-in-Err-clause-fault
returns-in_err-reason-in-Err-clause-fault g c =
    let task = c.args.task.now in
    let e = err_from_is_err_and c.from_residual.result c.from_residual.ensures.1 in
    let bound = attempt_bound c.args.budget (g.G.Monitor.bound c.args.monitor.now) in
    rw (e.1, e.2) (subst (IsCandidateFault task) (sym c.in_err-reason-in-Err.ensures.same) (trial_cause task c.args.budget bound c.args.trial.now c.in-Err.fault c.requires.trial c.in-Err.ensures.fault))
