use Rattle.std.proofs.Common.{◌≡◌, ◌≤◌, ◌*◌, ◌^◌, suc, subst, refl, inl, inr, arith, lit<}
use Rattle.std.proofs.lemmas.Result.{err_from_is_err_and}
use Rattle.compare_built.specs.declared.strategy.Candidate.{Candidate}
use Rattle.order_search.specs.Trials.{AreCandidatesGivenUp, Decides, IsCandidateGivenUp, IsRound}
use Rattle.order_search.proofs.Budgets.{each_budget, next_budget, tried_next}
use Rattle.order_search.proofs.Searching.{all_given_up, ended_at_once, found_later, never_gives_up}
use Rattle.order_search.proofs.budget_search.find_later.Goals as goal

pub loop-budget-init : goal.loop-budget-init
loop-budget-init g c = record {
  trials = c.requires.trials;
  power = (1, refl, λ j lt k. let none : 0 ≡ j = omega (arith, lt) in subst (λ i. IsCandidateGivenUp c.args.task.now (16384 * 32 ^ i) (g.G.Monitor.bound c.args.monitor.now) k) none (c.requires.first k));
  more = lit< tt;
}

pub loop-budget-preserved : goal.loop-budget-preserved
loop-budget-preserved g c =
    let p = c.loop-budget.invariant.power in
    let more = c.loop-budget.invariant.more in
    let bound = g.G.Monitor.bound c.args.monitor.now in
    let r : AreCandidatesGivenUp c.args.task.now c.loop-budget.budget bound c.in-GivenUp.full c.try_again.new.trials.items =
    subst (IsRound c.args.task.now c.args.declared c.loop-budget.budget bound c.try_again.new.trials.items) c.in-GivenUp.is c.in_ok-decided.ensures.round in
    record {
      trials = r.trials_of;
      power = (
        suc p.0,
        next_budget p.0 c.loop-budget.budget p.1,
        tried_next (λ n. (k : Candidate) → IsCandidateGivenUp c.args.task.now n bound k) p.0 c.loop-budget.budget p.1 p.2 r.each,
      );
      more = omega (arith, more);
    }

-- ---- a budget below the limit

pub returns-in_err-decided-clause-fault : goal.returns-in_err-decided-clause-fault
returns-in_err-decided-clause-fault g c =
    let e = err_from_is_err_and c.from_residual.result c.from_residual.ensures.1 in
    rw (e.1, e.2) (ended_at_once c.args.task.now c.args.declared c.args.limit (g.G.Monitor.bound c.args.monitor.now) c.in_err-decided.field-0.0 c.in_err-decided.ensures.fault c.in_err-decided.ensures.ends)

pub returns-in_err-decided-clause-trials : goal.returns-in_err-decided-clause-trials
returns-in_err-decided-clause-trials g c =
    let e = err_from_is_err_and c.from_residual.result c.from_residual.ensures.1 in
    rw (e.1, e.2) (λ given_up. absurd (never_gives_up c.in_err-decided.field-0.0 c.in_err-decided.ensures.ends given_up))

pub returns-in-Decided-clause-found : goal.returns-in-Decided-clause-found
returns-in-Decided-clause-found g c =
    let p = c.loop-budget.invariant.power in
    let budget = c.loop-budget.budget in
    let lt = c.loop-budget-test.true in
    let bound = g.G.Monitor.bound c.args.monitor.now in
    let d : Decides c.args.task.now c.args.declared budget c.in-Decided.decided =
    subst (IsRound c.args.task.now c.args.declared budget bound c.try_again.new.trials.items) c.in-Decided.is c.in_ok-decided.ensures.round in
    found_later c.args.task.now c.args.declared c.args.limit bound p.0 budget c.in-Decided.decided (let e = p.1 in omega arith) (omega (arith, lt)) c.loop-budget.invariant.more (inl (p.0, p.1, lt)) p.2 d

-- ---- the limit

pub returns-in_err-decided-2-clause-fault : goal.returns-in_err-decided-2-clause-fault
returns-in_err-decided-2-clause-fault g c =
    let e = err_from_is_err_and c.from_residual-in_err-decided-2.result c.from_residual-in_err-decided-2.ensures.1 in
    rw (e.1, e.2) (ended_at_once c.args.task.now c.args.declared c.args.limit (g.G.Monitor.bound c.args.monitor.now) c.in_err-decided-2.field-0.0 c.in_err-decided-2.ensures.fault c.in_err-decided-2.ensures.ends)

pub returns-in_err-decided-2-clause-trials : goal.returns-in_err-decided-2-clause-trials
returns-in_err-decided-2-clause-trials g c =
    let e = err_from_is_err_and c.from_residual-in_err-decided-2.result c.from_residual-in_err-decided-2.ensures.1 in
    rw (e.1, e.2) (λ given_up. absurd (never_gives_up c.in_err-decided-2.field-0.0 c.in_err-decided-2.ensures.ends given_up))

pub returns-in-Decided-2-clause-found : goal.returns-in-Decided-2-clause-found
returns-in-Decided-2-clause-found g c =
    let p = c.loop-budget.invariant.power in
    let limit = c.args.limit in
    let bound = g.G.Monitor.bound c.args.monitor.now in
    let d : Decides c.args.task.now c.args.declared limit c.in-Decided-2.decided =
    subst (IsRound c.args.task.now c.args.declared limit bound c.try_again-2.new.trials.items) c.in-Decided-2.is c.in_ok-decided-2.ensures.round in
    found_later c.args.task.now c.args.declared limit bound p.0 limit c.in-Decided-2.decided (let e = p.1 in omega arith) (omega arith) c.requires.more (inr refl) p.2 d

pub returns-in-GivenUp-2-clause-fault : goal.returns-in-GivenUp-2-clause-fault
returns-in-GivenUp-2-clause-fault g c =
    let limit = c.args.limit in
    let bound = g.G.Monitor.bound c.args.monitor.now in
    let p = c.loop-budget.invariant.power in
    let full = c.in-GivenUp-2.full in
    let trials = c.try_again-2.new.trials.items in
    let last : AreCandidatesGivenUp c.args.task.now limit bound full trials =
    subst (IsRound c.args.task.now c.args.declared limit bound trials) c.in-GivenUp-2.is c.in_ok-decided-2.ensures.round in
    let most : limit ≤ 16384 * 32 ^ p.0 = (let e = p.1 in omega arith) in
    all_given_up c.args.task.now c.args.declared limit bound full trials c.fault_of.result last
    (each_budget (λ n. (k : Candidate) → IsCandidateGivenUp c.args.task.now n bound k) limit p.0 p.2 most last.each) c.fault_of.ensures.which c.fault_of.ensures.full c.fault_of.ensures.others c.fault_of.ensures.stopped

pub returns-in-GivenUp-2-clause-trials : goal.returns-in-GivenUp-2-clause-trials
returns-in-GivenUp-2-clause-trials g c =
    let bound = g.G.Monitor.bound c.args.monitor.now in
    let trials = c.try_again-2.new.trials.items in
    let last : AreCandidatesGivenUp c.args.task.now c.args.limit bound c.in-GivenUp-2.full trials =
    subst (IsRound c.args.task.now c.args.declared c.args.limit bound trials) c.in-GivenUp-2.is c.in_ok-decided-2.ensures.round in
    λ given_up. last.trials_of
