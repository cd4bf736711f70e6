use Rattle.std.proofs.Common.{◌<◌, subst, sym, arith, get_or, below_more}
use Rattle.compare_built.specs.declared.strategy.Candidate.{Candidate}
use Rattle.compare_built.specs.declared.strategy.AttemptOrder.TheVariants.{Computed}
use Rattle.compare_built.specs.declared.strategy.Candidate.TheVariants.{MsbFirst}
use Rattle.order_search.specs.declared.attempts.Round.TheVariants.{Decided, GivenUp}
use Rattle.compare_built.specs.Attempts.{AllBefore}
use Rattle.order_search.specs.Trials.{IsCandidateGivenUp, IsTried, IsFirstAttempt}
use Rattle.order_search.proofs.Rounds.{all_passed, before_at, candidates, each_at, passed_by}
use Rattle.order_search.proofs.Searching.{none_given_up, none_otherwise}
use Rattle.order_search.proofs.attempts.try_first.Goals as goal

pub loop-candidate-init : goal.loop-candidate-init
loop-candidate-init g c =
    let task = c.args.task.now in
    let bound = g.G.Monitor.bound c.args.monitor.now in
    let old = c.args.trials.now.items in
    record {
      given_up = none_given_up task c.args.declared c.args.budget bound old c.requires.none;
      of_candidates = none_otherwise task c.args.declared c.args.budget bound old c.requires.none;
      tried = λ j less. absurd (omega (arith, less));
    }

pub returns-in-Decided-clause-first : goal.returns-in-Decided-clause-first
returns-in-Decided-clause-first g c =
    let task = c.args.task.now in
    let bound = g.G.Monitor.bound c.args.monitor.now in
    let here = c.loop-candidate.candidate-index in
    let old = c.loop-candidate.trials.items in
    let inv = c.loop-candidate.invariant in
    let P : Candidate → Type 0 = IsCandidateGivenUp task c.args.budget bound in
    let first_attempt : IsFirstAttempt task c.args.declared c.args.budget bound (Computed (get_or candidates here MsbFirst)) old c.try_candidate.new.trials.items (Decided c.in-Decided.decided) =
    subst (IsFirstAttempt task c.args.declared c.args.budget bound (Computed (get_or candidates here MsbFirst)) old c.try_candidate.new.trials.items) c.in-Decided.is c.in_ok-decided.ensures.first_attempt in
    let lt : here < 3 = omega (arith, c.loop-candidate-test.true) in
    subst (λ k. AllBefore k P) (sym first_attempt.1)
    (before_at P here MsbFirst lt (λ j less. passed_by task c.args.budget bound c.loop-candidate.all_full old (Computed (get_or candidates j MsbFirst)) inv.given_up (inv.tried j less)))

pub loop-candidate-preserved : goal.loop-candidate-preserved
loop-candidate-preserved g c =
    let task = c.args.task.now in
    let bound = g.G.Monitor.bound c.args.monitor.now in
    let here = c.loop-candidate.candidate-index in
    let old = c.loop-candidate.trials.items in
    let new = c.try_candidate.new.trials.items in
    let inv = c.loop-candidate.invariant in
    let first_attempt : IsFirstAttempt task c.args.declared c.args.budget bound (Computed (get_or candidates here MsbFirst)) old new (GivenUp c.in-GivenUp.full) =
    subst (IsFirstAttempt task c.args.declared c.args.budget bound (Computed (get_or candidates here MsbFirst)) old new) c.in-GivenUp.is c.in_ok-decided.ensures.first_attempt in
    record {
      given_up = first_attempt.0 c.loop-candidate.all_full inv.given_up;
      of_candidates = first_attempt.3 tt inv.of_candidates;
      tried = below_more (λ j. IsTried task new (Computed (get_or candidates j MsbFirst))) here (λ j less. first_attempt.2 (Computed (get_or candidates j MsbFirst)) (inv.tried j less)) first_attempt.1;
    }

pub returns-clause-round : goal.returns-clause-round
returns-clause-round g c =
    all_passed c.args.task.now c.args.budget (g.G.Monitor.bound c.args.monitor.now) c.loop-candidate.all_full c.loop-candidate.trials.items c.loop-candidate.invariant.given_up
    c.loop-candidate.invariant.of_candidates (each_at (λ k. IsTried c.args.task.now c.loop-candidate.trials.items (Computed k)) MsbFirst (λ j lt. c.loop-candidate.invariant.tried j (omega (arith, lt))))
