use Rattle.std.proofs.Common.{subst, arith, Some}
use Rattle.order_search.specs.Trials.{AreCandidatesGivenUp, Decides, IsRound}
use Rattle.check_report.proofs.Wholes.{all_again, decided_again, small_all}
use Rattle.check_report.proofs.whole.search_again.Goals as goal

pub returns-then-limit-le-FIRST_WHOLE_LIMIT-clause-again : goal.returns-then-limit-le-FIRST_WHOLE_LIMIT-clause-again
returns-then-limit-le-FIRST_WHOLE_LIMIT-clause-again g c =
    (c.requires.trials, small_all c.args.task.now (g.G.Monitor.bound c.args.monitor.now) (let few = c.if-limit-le-FIRST_WHOLE_LIMIT.true in omega (arith, few)) c.requires.given_up)

pub returns-in-Decided-clause-again : goal.returns-in-Decided-clause-again
returns-in-Decided-clause-again g c =
    let task = c.args.task.now in
    let bound = g.G.Monitor.bound c.args.monitor.now in
    let d = c.in-Decided.decided in
    let round : Decides task (Some c.args.declared) c.min-budget.result d =
    subst (IsRound task (Some c.args.declared) c.min-budget.result bound c.try_again.new.trials.items) c.in-Decided.is c.in_ok-decided.ensures.round in
    decided_again task (Some c.args.declared) bound d (let more = c.if-limit-le-FIRST_WHOLE_LIMIT.false in omega (arith, more)) (subst (λ n. Decides task (Some c.args.declared) n d) c.min-budget.ensures round) c.requires.given_up

pub returns-in-GivenUp-clause-again : goal.returns-in-GivenUp-clause-again
returns-in-GivenUp-clause-again g c =
    let task = c.args.task.now in
    let bound = g.G.Monitor.bound c.args.monitor.now in
    let trials = c.try_again.new.trials.items in
    let full = c.in-GivenUp.full in
    let round : AreCandidatesGivenUp task c.min-budget.result bound full trials =
    subst (IsRound task (Some c.args.declared) c.min-budget.result bound trials) c.in-GivenUp.is c.in_ok-decided.ensures.round in (
      round.trials_of,
      all_again task bound full trials (let more = c.if-limit-le-FIRST_WHOLE_LIMIT.false in omega (arith, more)) (subst (λ n. AreCandidatesGivenUp task n bound full trials) c.min-budget.ensures round) c.requires.given_up,
    )
