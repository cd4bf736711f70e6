use Rattle.std.proofs.Common.{◌≡◌, refl, subst, sym, rules, List, Contains}
use Rattle.std.proofs.lemmas.Result.{err_from_is_err_and}
use Rattle.order_search.specs.declared.trials.Trial.{Trial}
use Rattle.order_search.specs.Trials.{AreGivenUpTrials, AreOfCandidates, IsEnded, IsTried}
use Rattle.order_search.proofs.Rounds.{accepted_by, and_true, of_candidates_more, one_more, order_ends, tried_before, tried_last, tried_still}
use Rattle.order_search.proofs.attempts.try_candidate.Goals as goal

-- ---- no pairing

pub returns-in_err-pairing-clause-fault : goal.returns-in_err-pairing-clause-fault
returns-in_err-pairing-clause-fault g c =
    let e = err_from_is_err_and c.from_residual.result c.from_residual.ensures.1 in
    rw (e.1, e.2) (λ input ga. c.in_err-pairing.ensures.fault input ga)

pub returns-in_err-pairing-clause-ends : goal.returns-in_err-pairing-clause-ends
returns-in_err-pairing-clause-ends g c =
    let e = err_from_is_err_and c.from_residual.result c.from_residual.ensures.1 in
    rw (e.1, e.2) (order_ends c.in_err-pairing.field-0.0 c.in_err-pairing.ensures.refused.0 c.in_err-pairing.ensures.refused.1)

-- ---- the order of a trial before

pub returns-then-is_tried-clause-first_attempt : goal.returns-then-is_tried-clause-first_attempt
returns-then-is_tried-clause-first_attempt g c =
    let task = c.args.task.now in
    let old = c.args.trials.now.items in
    let bound = g.G.Monitor.bound c.args.monitor.now in
    let is = c.in_ok-pairing.ensures.paired in
    let same : (t : Trial) × Contains old t × (t.pairing.names ≡ c.in_ok-pairing.pairing.names) = (let h = c.is_tried.ensures.tried c.if-is_tried.true in search rules) in
    (λ all gs. and_true task c.args.budget bound all old gs, tried_before task old c.args.order c.in_ok-pairing.pairing c.requires.own is same, λ k h. h, λ of h. h)

-- ---- an attempt

pub returns-in-Decided-clause-first_attempt : goal.returns-in-Decided-clause-first_attempt
returns-in-Decided-clause-first_attempt g c =
    let bound = g.G.Monitor.bound c.args.monitor.now in
    ((subst (IsEnded c.args.task.now c.args.declared c.args.budget bound _) c.in-Decided.is c.in_ok-verdicts.ensures.ended, refl), refl)

pub returns-in_ok-keep-in-GivenUp-clause-first_attempt : goal.returns-in_ok-keep-in-GivenUp-clause-first_attempt
returns-in_ok-keep-in-GivenUp-clause-first_attempt g c =
    let task = c.args.task.now in
    let old = c.args.trials.now.items in
    let bound = g.G.Monitor.bound c.args.monitor.now in
    let is = c.in_ok-pairing.ensures.paired in
    let kept = c.in_ok-keep-in-GivenUp.ensures in (
      λ all gs. subst (AreGivenUpTrials task c.args.budget bound _) (sym {A = List Trial} kept)
          (one_more task c.args.budget bound all c.in-GivenUp.full old _ is (subst (IsEnded task c.args.declared c.args.budget bound _) c.in-GivenUp.is c.in_ok-verdicts.ensures.ended) gs),
      subst (λ ts. IsTried task ts c.args.order) (sym {A = List Trial} kept) (tried_last task old _ is),
      λ k h. subst (λ ts. IsTried task ts k) (sym {A = List Trial} kept) (tried_still task old _ k h),
      λ of h. subst AreOfCandidates (sym {A = List Trial} kept) (of_candidates_more task old _ of h),
    )

-- ---- no memory

pub returns-in_err-keep-in-GivenUp-clause-fault : goal.returns-in_err-keep-in-GivenUp-clause-fault
returns-in_err-keep-in-GivenUp-clause-fault g c =
    let task = c.args.task.now in
    let is = c.in_ok-pairing.ensures.paired in
    let e = err_from_is_err_and c.from_residual-in_err-keep-in-GivenUp.result c.from_residual-in_err-keep-in-GivenUp.ensures.1 in
    rw (e.1, e.2) (λ input ga. accepted_by task input ga task.settings.now.order c.args.order c.in_ok-pairing.pairing is)
