use Rattle.std.proofs.Common.{subst, arith, true, Some}
use Rattle.order_search.specs.Trials.{AreCandidatesGivenUp, Decides, IsRound}
use Rattle.order_search.proofs.Searching.{none_given_up}
use Rattle.check_report.proofs.Wholes.{decided_last, small_limit}
use Rattle.check_report.proofs.whole.try_to_limit.Goals as goal

pub returns-then-limit-le-WHOLE_LIMIT-clause-tried : goal.returns-then-limit-le-WHOLE_LIMIT-clause-tried
returns-then-limit-le-WHOLE_LIMIT-clause-tried g c =
    let task = c.args.task.now in
    let bound = g.G.Monitor.bound c.args.monitor.now in (
      (true, none_given_up task (Some c.args.declared) task.settings.now.limit bound c.new.result.items c.new.ensures.items),
      small_limit task bound (let few = c.if-limit-le-WHOLE_LIMIT.true in omega (arith, few)) c.requires.given_up,
    )

pub returns-in-Decided-clause-tried : goal.returns-in-Decided-clause-tried
returns-in-Decided-clause-tried g c =
    let task = c.args.task.now in
    let bound = g.G.Monitor.bound c.args.monitor.now in
    let round : Decides task (Some c.args.declared) task.settings.now.limit c.in-Decided.decided =
    subst (IsRound task (Some c.args.declared) task.settings.now.limit bound c.try_again.new.trials.items) c.in-Decided.is c.in_ok-decided.ensures.round in
    decided_last task (Some c.args.declared) bound c.in-Decided.decided round c.requires.given_up

pub returns-in-GivenUp-clause-tried : goal.returns-in-GivenUp-clause-tried
returns-in-GivenUp-clause-tried g c =
    let task = c.args.task.now in
    let bound = g.G.Monitor.bound c.args.monitor.now in
    let trials = c.try_again.new.trials.items in
    let round : AreCandidatesGivenUp task task.settings.now.limit bound c.in-GivenUp.full trials =
    subst (IsRound task (Some c.args.declared) task.settings.now.limit bound trials) c.in-GivenUp.is c.in_ok-decided.ensures.round in
    ((c.in-GivenUp.full, round.given_up), round.each)
