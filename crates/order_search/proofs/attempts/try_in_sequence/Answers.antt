use Rattle.std.proofs.Common.{◌≡◌, ◌+◌, ◌<◌, ◌∙◌, ap, All, List, None, refl, subst, sym, take, arith, get_or, length}
use Rattle.order_search.specs.Ahead.{AreRuns, IsRunAt, IsRunOf}
use Rattle.std.specs.List.{remove}
use Rattle.order_search.specs.Trials.{IsEnded, IsGivenUpFor, IsTrial, WasGivenUp}
use Rattle.order_search.specs.declared.trials.Trial.{Trial}
use Rattle.order_search.proofs.Rounds.{causes_more, nodes_more, others_more, whole_round}
use Rattle.order_search.proofs.attempts.try_in_sequence.Goals as goal

pub loop-place-init : goal.loop-place-init
loop-place-init g c = record {
  trials = c.requires.trials;
  kept = refl;
  causes = λ k d lt. absurd (omega (arith, lt));
  nodes = λ e k d lt. absurd (omega (arith, lt));
  runs = λ i k e.
      let task = c.args.task.now in
      let bound = g.G.Monitor.bound c.args.monitor.now in
      let made : AreRuns task c.args.declared c.args.budget bound c.args.trials.now.items c.runs_ahead-runs.result.items =
      subst (λ (ts : List Trial). AreRuns task c.args.declared c.args.budget bound ts c.runs_ahead-runs.result.items) c.as_slice.ensures.value c.runs_ahead-runs.ensures in
      let same : i ≡ k = omega (arith, e) in
      subst (λ j. IsRunAt task c.args.declared c.args.budget bound c.args.trials.now.items j (get_or c.runs_ahead-runs.result.items i None)) same (made i);
  others = λ never. absurd (cc);
}

pub runs_ahead-runs-requires-clause-own : goal.runs_ahead-runs-requires-clause-own
runs_ahead-runs-requires-clause-own g c κs within =
    subst (λ (ts : List Trial). All (IsTrial c.args.task.now) ts) (sym c.as_slice.ensures.value) c.requires.trials.own

pub attempt_unless_made-requires-clause-run : goal.attempt_unless_made-requires-clause-run
attempt_unless_made-requires-clause-run g c κs within =
    let task = c.args.task.now in
    let bound = g.G.Monitor.bound c.args.monitor.now in
    let trials = c.loop-place.trials.items in
    let place = c.loop-place.place in
    let lt : place < length trials = omega arith in
    let here : place ≡ place + 0 = omega arith in
    let run : IsRunOf task c.args.declared c.args.budget bound (get_or trials place c.index.result.now) (get_or c.loop-place.runs.items 0 None) =
    c.loop-place.invariant.runs 0 place here c.index.result.now lt in
    subst (λ o. IsRunOf task c.args.declared c.args.budget bound c.index.result.now o) (sym c.next_run-run.ensures.value)
    (subst (λ (t : Trial). IsRunOf task c.args.declared c.args.budget bound t (get_or c.loop-place.runs.items 0 None)) (sym c.index.ensures) run)

pub attempt_unless_made-requires-clause-trial : goal.attempt_unless_made-requires-clause-trial
attempt_unless_made-requires-clause-trial g c κs within =
    let trials = c.loop-place.trials.items in
    let lt : c.loop-place.place < length trials = omega arith in
    subst (IsTrial c.args.task.now) (sym c.index.ensures) (c.loop-place.invariant.trials.own c.loop-place.place c.index.result.now lt)

pub loop-place-preserved : goal.loop-place-preserved
loop-place-preserved g c =
    let trials = c.loop-place.trials.items in
    let bound = g.G.Monitor.bound c.args.monitor.now in
    let lt : c.loop-place.place < length trials = omega arith in
    let w : WasGivenUp c.args.task.now c.args.budget bound c.in-GivenUp.full c.index.result.now.pairing =
    subst (IsEnded c.args.task.now c.args.declared c.args.budget bound c.index.result.now) c.in-GivenUp.is c.in_ok-verdicts.ensures.ended in
    record {
      trials = c.loop-place.invariant.trials;
      kept = c.loop-place.invariant.kept;
      causes = causes_more c.args.task.now c.args.budget bound c.in-GivenUp.full trials c.loop-place.place c.index.result.now lt c.index.ensures w c.loop-place.invariant.causes;
      runs = λ i k e.
          subst (IsRunAt c.args.task.now c.args.declared c.args.budget bound trials k) (sym (c.next_run-run.ensures.rest i)) (c.loop-place.invariant.runs (i + 1) k (omega (arith, e)));
      nodes = nodes_more c.args.task.now c.args.budget bound c.loop-place.all_full c.in-GivenUp.full trials c.loop-place.place c.index.result.now lt c.index.ensures w c.loop-place.invariant.nodes;
      others = others_more c.args.task.now c.args.budget bound c.loop-place.all_full c.in-GivenUp.full trials c.loop-place.place c.index.result.now lt c.index.ensures w c.loop-place.invariant.others;
    }

pub returns-clause-round : goal.returns-clause-round
returns-clause-round g c =
    whole_round c.args.task.now c.args.budget (g.G.Monitor.bound c.args.monitor.now) c.loop-place.all_full c.loop-place.trials.items c.loop-place.place (omega arith)
    c.loop-place.invariant.trials c.loop-place.invariant.causes c.loop-place.invariant.nodes c.loop-place.invariant.others

pub returns-in-Decided-clause-first : goal.returns-in-Decided-clause-first
returns-in-Decided-clause-first g c =
    let task = c.args.task.now in
    let bound = g.G.Monitor.bound c.args.monitor.now in
    let old = c.args.trials.now.items in
    let kept = c.loop-place.invariant.kept in
    let lt : c.loop-place.place < length c.loop-place.trials.items = omega arith in
    record {
      place = c.loop-place.place;
      in_bounds = subst (λ (ts : List Trial). c.loop-place.place < length ts) kept lt;
      at_place = c.remove-trial.ensures.value ∙ ap (λ (ts : List Trial). get_or ts c.loop-place.place c.remove-trial.result) kept;
      given_up = subst (λ (ts : List Trial). All (λ (t : Trial). IsGivenUpFor task c.args.budget bound t.pairing) (take c.loop-place.place ts)) kept c.loop-place.invariant.causes;
      others = c.remove-trial.ensures.items ∙ ap (λ (ts : List Trial). remove ts c.loop-place.place) kept;
    }

pub returns-clause-first : goal.returns-clause-first
returns-clause-first g c = c.loop-place.invariant.kept
