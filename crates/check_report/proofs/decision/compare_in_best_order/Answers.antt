use Rattle.std.proofs.Common.{◌∙◌, ap, sym, subst, refl, inl, inr, Some}
use Rattle.std.proofs.lemmas.Result.{err_from_is_err_and}
use Rattle.net_bench.specs.Circuit.{circuit}
use Rattle.net_names.specs.declared.order.Order.TheVariants as orders
use Rattle.net_order.specs.Order.{NamingModel, condition}
use Rattle.compare_built.specs.Findings.{VerdictsModel, found_of}
use Rattle.compare_built.specs.declared.strategy.Attempt.{Attempt}
use Rattle.compare_built.specs.declared.strategy.AttemptOrder.TheVariants.{Computed}
use Rattle.compare_built.specs.Attempts.{AreGivenUp, AreTried, InEachOrder, InSomeOrder, IsAllowed, IsChosen, IsGivenUpOtherwise, IsGivenUpWithin, MayGoByCones, last_budget}
use Rattle.compare_built.specs.Limits.{AreBeyond}
use Rattle.explain_report.specs.Deciding.IsFoundBy.{in_order}
use Rattle.explain_report.specs.Explaining.{IsReportedOrder}
use Rattle.order_search.specs.Trials.{EndsSearch, IsNamingIn}
use Rattle.order_search.proofs.Rounds.{beyond_in_input, earlier_in_input, given_up_in_input, judged, order_in_input, otherwise_in_input, within}
use Rattle.check_report.proofs.Refusing.{from_each}
use Rattle.check_report.proofs.decision.compare_in_best_order.Goals as goal

pub returns-clause-decision : goal.returns-clause-decision
returns-clause-decision g c = λ input ga.
    let task = c.args.task.now in
    let s = task.settings.now in
    let bound = g.G.Monitor.bound c.args.monitor.now in
    let d = c.in_ok-decided.decided in
    let has = c.in_ok-decided.ensures.found in
    let is = has.decided.paired in
    let o = is.0 in
    let attempt : Attempt = record { order = d.trial.order; budget = d.budget } in
    record {
      found_by = in_order o
          (judged task input ga o d.trial.pairing _ _ is.2 (ap found_of (c.of.ensures ∙ ap (λ (p : NamingModel). record { naming = p; verdicts = d.verdicts.items }) c.into_naming.ensures)) has.decided.verdicts_of)
          (subst (λ choice. IsChosen input s.matching choice s.limit (Some attempt) o) (sym c.requires.best) (order_in_input task input ga d.trial.order o is.1, has.budget, within task input ga o d.trial.pairing d.budget is.2 has.decided.within));
      earlier_given_up = subst (λ choice. AreGivenUp input s.matching (last_budget choice s.limit) bound attempt) (sym c.requires.best) (earlier_in_input task input ga s.limit bound attempt has.earlier_given_up);
    }

pub returns-clause-named : goal.returns-clause-named
returns-clause-named g c =
    let task = c.args.task.now in
    let d = c.in_ok-decided.decided in
    let attempt : Attempt = record { order = d.trial.order; budget = d.budget } in
    let is = c.in_ok-decided.ensures.found.decided.paired in (
      is.0,
      subst (λ choice. IsReportedOrder choice (Some attempt) task.settings.now.matching (circuit task.first.now) (circuit task.second.now) (condition task.given) is.0) (sym c.requires.best) is.1,
      subst (IsNamingIn task is.0) (sym (ap (λ (v : VerdictsModel). v.naming) c.of.ensures ∙ c.into_naming.ensures)) is.2.naming,
    )

pub returns-in_err-decided-clause-no_decision : goal.returns-in_err-decided-clause-no_decision
returns-in_err-decided-clause-no_decision g c = λ input ga.
    let task = c.args.task.now in
    let s = task.settings.now in
    let bound = g.G.Monitor.bound c.args.monitor.now in
    let fault = c.in_err-decided.field-0.0 in
    let has = c.in_err-decided.ensures.fault in
    let e = err_from_is_err_and c.from_residual.result c.from_residual.ensures.1 in
    rw (e.1, e.2) (record {
      cause = (orders.Declared, subst (λ choice. IsAllowed choice orders.Declared) (sym c.requires.best) refl, has.cause input ga);
      answer = from_each input s bound fault (record {
        full = λ full.
            subst (λ choice. InEachOrder input s.matching choice (λ o. AreBeyond input s.matching o s.limit)) (sym c.requires.best) (λ k. beyond_in_input task input ga s.limit k (has.full full k));
        given_up = λ left. (
          subst AreTried (sym c.requires.best) tt,
          subst (λ choice. InEachOrder input s.matching choice (IsGivenUpWithin input s.matching s.limit bound)) (sym c.requires.best)
              (λ k. given_up_in_input task input ga s.limit bound (Computed k) (has.given_up (inr (inl left)) s.limit (inr refl) k)),
          (let other = has.others left in
              subst (λ choice. InSomeOrder input s.matching choice (IsGivenUpOtherwise input s.matching s.limit bound)) (sym c.requires.best)
              (other.0, otherwise_in_input task input ga s.limit bound (Computed other.0) other.1)),
        );
        by_cones = λ may. absurd (subst MayGoByCones c.requires.best may);
        any_number_of_inputs = λ may. absurd (subst MayGoByCones c.requires.best may);
        only = λ none. absurd (subst EndsSearch none has.ends);
        past = λ none. absurd (subst EndsSearch none has.ends);
        stopped = λ stopped. (λ may. subst MayGoByCones c.requires.best may, has.stopped stopped);
        needs_no_thread = λ _ none. subst EndsSearch none has.ends;
        thread_for_named_order = λ none. absurd (subst EndsSearch none has.ends);
      });
      unwritten = λ none. subst EndsSearch none has.ends;
    })

pub returns-in_err-decided-clause-ends : goal.returns-in_err-decided-clause-ends
returns-in_err-decided-clause-ends g c =
    let e = err_from_is_err_and c.from_residual.result c.from_residual.ensures.1 in
    rw (e.1, e.2) c.in_err-decided.ensures.fault.ends
