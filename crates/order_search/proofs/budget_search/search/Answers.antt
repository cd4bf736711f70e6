use Rattle.std.proofs.Common.{◌≡◌, ◌≤◌, subst, arith}
use Rattle.std.proofs.lemmas.Result.{err_from_is_err_and}
use Rattle.compare_built.specs.declared.strategy.Candidate.{Candidate}
use Rattle.compare_built.specs.Attempts.{AllBefore}
use Rattle.order_search.specs.Trials.{AreCandidatesGivenUp, Decides, IsCandidateGivenUp, IsFirstRound, IsRound}
use Rattle.order_search.proofs.Budgets.{each_budget}
use Rattle.order_search.proofs.Searching.{all_given_up, ended_at_once, found_first, never_gives_up}
use Rattle.order_search.proofs.budget_search.search.Goals as goal

pub returns-in_err-decided-clause-fault : goal.returns-in_err-decided-clause-fault
returns-in_err-decided-clause-fault g c =
    let e = err_from_is_err_and c.from_residual.result c.from_residual.ensures.1 in
    rw (e.1, e.2) (ended_at_once c.args.task.now c.args.declared c.args.limit (g.G.Monitor.bound c.args.monitor.now) c.in_err-decided.field-0.0 c.in_err-decided.ensures.fault c.in_err-decided.ensures.ends)

pub returns-in_err-decided-clause-trials : goal.returns-in_err-decided-clause-trials
returns-in_err-decided-clause-trials g c =
    let e = err_from_is_err_and c.from_residual.result c.from_residual.ensures.1 in
    rw (e.1, e.2) (λ given_up. absurd (never_gives_up c.in_err-decided.field-0.0 c.in_err-decided.ensures.ends given_up))

pub returns-in-Decided-clause-found : goal.returns-in-Decided-clause-found
returns-in-Decided-clause-found g c =
    let task = c.args.task.now in
    let bound = g.G.Monitor.bound c.args.monitor.now in
    let d = c.in-Decided.decided in
    let decides : Decides task c.args.declared c.min-budget.result d =
    subst (IsRound task c.args.declared c.min-budget.result bound c.try_first.new.trials.items) c.in-Decided.is c.in_ok-decided.ensures.round in
    let before : AllBefore d.trial.order (IsCandidateGivenUp task c.min-budget.result bound) = subst (IsFirstRound task c.min-budget.result bound) c.in-Decided.is c.in_ok-decided.ensures.first in
    found_first task c.args.declared c.args.limit bound c.min-budget.result d c.min-budget.ensures decides before

pub returns-in-GivenUp-clause-fault : goal.returns-in-GivenUp-clause-fault
returns-in-GivenUp-clause-fault g c =
    let task = c.args.task.now in
    let limit = c.args.limit in
    let bound = g.G.Monitor.bound c.args.monitor.now in
    let full = c.in-GivenUp.full in
    let trials = c.try_first.new.trials.items in
    let few : limit ≤ 16384 = omega arith in
    let same : c.min-budget.result ≡ limit = omega (arith, c.min-budget.ensures) in
    let last : AreCandidatesGivenUp task limit bound full trials =
    subst (λ n. AreCandidatesGivenUp task n bound full trials) same (subst (IsRound task c.args.declared c.min-budget.result bound trials) c.in-GivenUp.is c.in_ok-decided.ensures.round) in
    all_given_up task c.args.declared limit bound full trials c.fault_of.result last
    (each_budget (λ n. (k : Candidate) → IsCandidateGivenUp task n bound k) limit 0 (λ j lt. absurd (omega (arith, lt))) (omega (arith, few)) last.each) c.fault_of.ensures.which c.fault_of.ensures.full c.fault_of.ensures.others c.fault_of.ensures.stopped

pub returns-in-GivenUp-clause-trials : goal.returns-in-GivenUp-clause-trials
returns-in-GivenUp-clause-trials g c =
    let bound = g.G.Monitor.bound c.args.monitor.now in
    let trials = c.try_first.new.trials.items in
    let last : AreCandidatesGivenUp c.args.task.now c.min-budget.result bound c.in-GivenUp.full trials =
    subst (IsRound c.args.task.now c.args.declared c.min-budget.result bound trials) c.in-GivenUp.is c.in_ok-decided.ensures.round in
    λ given_up. last.trials_of
