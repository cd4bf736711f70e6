use Rattle.std.proofs.Common.{◌∙◌, ap, sym, subst, refl, Err, None}
use Rattle.std.proofs.lemmas.Result.{err_from_is_err_and}
use Rattle.net_bench.specs.Circuit.{circuit}
use Rattle.net_names.specs.declared.order.Order.TheVariants as orders
use Rattle.net_order.specs.Order.{NamingModel, condition}
use Rattle.compare_built.specs.Findings.{VerdictsModel, found_of}
use Rattle.compare_built.specs.declared.strategy.AttemptOrder.{AttemptOrder}
use Rattle.compare_built.specs.declared.strategy.AttemptOrder.TheVariants.{Computed}
use Rattle.compare_built.specs.Attempts.{InEachOrder, IsAllowed, IsChosen, IsNamedIn, MayGoByCones, NamesOrder}
use Rattle.compare_built.specs.Check.{IsComparisonFault}
use Rattle.compare_built.specs.Limits.{AreBeyond}
use Rattle.compare_built.proofs.Widening.{wide_given}
use Rattle.explain_report.specs.Deciding.IsFoundBy.{in_order}
use Rattle.explain_report.specs.Explaining.{IsReportedOrder}
use Rattle.order_search.specs.Trials.{EndsAtOnce, IsNamingIn}
use Rattle.order_search.proofs.Reporting.{late_fault}
use Rattle.order_search.proofs.Rounds.{accepted_by, beyond, judged, order_ends, order_in_input, within}
use Rattle.check_report.proofs.Refusing.{at_once, from_each}
use Rattle.check_report.proofs.decision.compare_in_computed_order.Goals as goal

pub compare-requires-clause-paired : goal.compare-requires-clause-paired
compare-requires-clause-paired g c κs within = (c.args.task.now.settings.now.matching, c.in_ok-pairing.ensures.paired.0, c.in_ok-pairing.ensures.paired.2)

pub returns-clause-decision : goal.returns-clause-decision
returns-clause-decision g c = λ input ga.
    let task = c.args.task.now in
    let s = task.settings.now in
    let by : AttemptOrder = Computed c.args.candidate in
    let is = c.in_ok-pairing.ensures.paired in
    let o = is.0 in
    record {
      found_by = in_order o
          (judged task input ga o c.in_ok-pairing.pairing _ _ is.2 (ap found_of (c.of.ensures ∙ ap (λ (p : NamingModel). record { naming = p; verdicts = c.in_ok-verdicts.verdicts.items }) c.into_naming.ensures)) c.in_ok-verdicts.ensures.ok)
          (subst (λ choice. IsChosen input s.matching choice s.limit None o) (sym c.requires.computed)
          (order_in_input task input ga by o is.1, within task input ga o c.in_ok-pairing.pairing s.limit is.2 c.in_ok-verdicts.ensures.within));
      earlier_given_up = tt;
    }

pub returns-clause-named : goal.returns-clause-named
returns-clause-named g c =
    let task = c.args.task.now in
    let is = c.in_ok-pairing.ensures.paired in (
      is.0,
      subst (λ choice. IsReportedOrder choice None task.settings.now.matching (circuit task.first.now) (circuit task.second.now) (condition task.given) is.0) (sym c.requires.computed) is.1,
      subst (IsNamingIn task is.0) (sym (ap (λ (v : VerdictsModel). v.naming) c.of.ensures ∙ c.into_naming.ensures)) is.2.naming,
    )

pub returns-in_err-pairing-clause-no_decision : goal.returns-in_err-pairing-clause-no_decision
returns-in_err-pairing-clause-no_decision g c = λ input ga.
    let fault = c.in_err-pairing.field-0.0 in
    let ends = order_ends fault c.in_err-pairing.ensures.refused.0 c.in_err-pairing.ensures.refused.1 in
    let e = err_from_is_err_and c.from_residual.result c.from_residual.ensures.1 in
    rw (e.1, e.2) (record {
      cause = (orders.Declared, subst (λ choice. IsAllowed choice orders.Declared) (sym c.requires.computed) refl, c.in_err-pairing.ensures.fault input ga);
      answer = at_once input c.args.task.now.settings.now (g.G.Monitor.bound c.args.monitor.now) fault ends (λ may. absurd (subst MayGoByCones c.requires.computed may));
      unwritten = λ e. subst EndsAtOnce e ends;
    })

pub returns-in_err-verdicts-clause-no_decision : goal.returns-in_err-verdicts-clause-no_decision
returns-in_err-verdicts-clause-no_decision g c = λ input ga.
    let task = c.args.task.now in
    let s = task.settings.now in
    let bound = g.G.Monitor.bound c.args.monitor.now in
    let by : AttemptOrder = Computed c.args.candidate in
    let p = c.in_ok-pairing.pairing in
    let is = c.in_ok-pairing.ensures.paired in
    let o = is.0 in
    let fault = c.in_err-verdicts.field-0.0 in
    let has = c.in_err-verdicts.ensures in
    let e = err_from_is_err_and c.from_residual-in_err-verdicts.result c.from_residual-in_err-verdicts.ensures.1 in
    rw (e.1, e.2) (record {
      cause = (
        orders.Declared,
        subst (λ choice. IsAllowed choice orders.Declared) (sym c.requires.computed) refl,
        late_fault input ⊥ ⊥ ⊥ s.order s.matching orders.Declared fault (accepted_by task input ga s.order by p is) has.err,
      );
      answer = from_each input s bound fault (record {
        full = λ full. subst (λ choice. InEachOrder input s.matching choice (λ k. AreBeyond input s.matching k s.limit)) (sym c.requires.computed)
            (o, order_in_input task input ga by o is.1, beyond task input ga o p s.limit is.2 (has.full (ap Err full)));
        given_up = λ none. absurd (subst IsComparisonFault none has.err);
        by_cones = λ may. absurd (subst MayGoByCones c.requires.computed may);
        any_number_of_inputs = λ may. absurd (subst MayGoByCones c.requires.computed may);
        only = λ none. absurd (subst IsComparisonFault none has.err);
        past = λ past. (
          o,
          subst (λ choice. IsNamedIn input s.matching choice o) (sym c.requires.computed) (order_in_input task input ga by o is.1),
          wide_given input s.matching o (circuit task.first.now) (circuit task.second.now) (condition task.given) p (record { netlists = ga; pairing = is.2 }) bound.requests (has.past (ap Err past)),
        );
        stopped = λ stopped. (λ may. subst MayGoByCones c.requires.computed may, has.stopped (ap Err stopped));
        needs_no_thread = λ less none. has.needs_no_thread less (ap Err none);
        thread_for_named_order = λ _. subst NamesOrder (sym c.requires.computed) tt;
      });
      unwritten = λ none. subst IsComparisonFault none has.err;
    })
