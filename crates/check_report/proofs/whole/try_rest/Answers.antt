use Rattle.std.proofs.Common.{subst, Some}
use Rattle.order_search.specs.Trials.{Decides, IsLastAttempt}
use Rattle.check_report.specs.Wholes.{IsTriedAgain, IsTriedToLimit}
use Rattle.check_report.proofs.Wholes.{decided_last}
use Rattle.check_report.proofs.whole.try_rest.Goals as goal

-- ---- within the second limit

pub returns-in-Decided-clause-rest : goal.returns-in-Decided-clause-rest
returns-in-Decided-clause-rest g c =
    subst (IsTriedAgain c.args.task.now (Some c.args.declared) (g.G.Monitor.bound c.args.monitor.now)) c.in-Decided.is c.in_ok-decided.ensures.rest

pub try_to_limit-requires-clause-trials : goal.try_to_limit-requires-clause-trials
try_to_limit-requires-clause-trials g c κs within =
    (subst (IsTriedAgain c.args.task.now (Some c.args.declared) (g.G.Monitor.bound c.args.monitor.now)) c.in-GivenUp.is c.in_ok-decided.ensures.rest).0

pub try_to_limit-requires-clause-given_up : goal.try_to_limit-requires-clause-given_up
try_to_limit-requires-clause-given_up g c κs within =
    (subst (IsTriedAgain c.args.task.now (Some c.args.declared) (g.G.Monitor.bound c.args.monitor.now)) c.in-GivenUp.is c.in_ok-decided.ensures.rest).1

-- ---- within the limit of the run

pub returns-in-Decided-2-clause-rest : goal.returns-in-Decided-2-clause-rest
returns-in-Decided-2-clause-rest g c =
    subst (IsTriedToLimit c.args.task.now (Some c.args.declared) (g.G.Monitor.bound c.args.monitor.now)) c.in-Decided-2.is c.in_ok-decided-2.ensures.tried

pub try_declared-requires-clause-given_up : goal.try_declared-requires-clause-given_up
try_declared-requires-clause-given_up g c κs within =
    (subst (IsTriedToLimit c.args.task.now (Some c.args.declared) (g.G.Monitor.bound c.args.monitor.now)) c.in-GivenUp-2.is c.in_ok-decided-2.ensures.tried).0

-- ---- in declared order

pub returns-in-Decided-3-clause-rest : goal.returns-in-Decided-3-clause-rest
returns-in-Decided-3-clause-rest g c =
    let task = c.args.task.now in
    let bound = g.G.Monitor.bound c.args.monitor.now in
    let all = (subst (IsTriedAgain task (Some c.args.declared) bound) c.in-GivenUp.is c.in_ok-decided.ensures.rest).1 in
    let last : Decides task (Some c.args.declared) task.settings.now.limit c.in-Decided-3.decided =
    subst (IsLastAttempt task (Some c.args.declared) task.settings.now.limit bound) c.in-Decided-3.is c.in_ok-decided-3.ensures.last in
    decided_last task (Some c.args.declared) bound c.in-Decided-3.decided last all

pub returns-in-GivenUp-3-clause-rest : goal.returns-in-GivenUp-3-clause-rest
returns-in-GivenUp-3-clause-rest g c =
    let task = c.args.task.now in
    let bound = g.G.Monitor.bound c.args.monitor.now in (
      (subst (IsTriedToLimit task (Some c.args.declared) bound) c.in-GivenUp-2.is c.in_ok-decided-2.ensures.tried).1,
      subst (IsLastAttempt task (Some c.args.declared) task.settings.now.limit bound) c.in-GivenUp-3.is c.in_ok-decided-3.ensures.last,
    )
