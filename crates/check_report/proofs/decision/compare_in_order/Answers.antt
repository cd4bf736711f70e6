use Rattle.std.proofs.Common.{◌∙◌, ap, sym, subst, refl, Err, None}
use Rattle.std.proofs.lemmas.Result.{err_from_is_err_and}
use Rattle.net_bench.specs.Circuit.{circuit}
use Rattle.net_order.specs.Order.{NamingModel, condition}
use Rattle.compare_built.specs.Findings.{VerdictsModel, found_of}
use Rattle.compare_built.specs.Attempts.{InEachOrder, IsAllowed, IsChosen, IsNamedIn, MayGoByCones, NamesOrder}
use Rattle.compare_built.specs.Check.{IsComparisonFault}
use Rattle.compare_built.specs.Limits.{AreBeyond}
use Rattle.compare_built.proofs.Widening.{wide_given}
use Rattle.explain_report.specs.Deciding.IsFoundBy.{in_order}
use Rattle.explain_report.specs.Explaining.{IsReportedOrder}
use Rattle.order_search.specs.Trials.{EndsAtOnce, IsNamingIn}
use Rattle.order_search.proofs.Reporting.{late_fault}
use Rattle.order_search.proofs.Rounds.{accepted_paired, beyond, judged, order_ends, within}
use Rattle.check_report.proofs.Refusing.{at_once, from_each}
use Rattle.check_report.proofs.decision.compare_in_order.Goals as goal

pub returns-clause-decision : goal.returns-clause-decision
returns-clause-decision g c = λ input ga.
    let task = c.args.task.now in
    let s = task.settings.now in
    let o = c.args.order.now in
    let is = c.in_ok-pairing.ensures.paired in
    record {
      found_by = in_order o
          (judged task input ga o c.in_ok-pairing.pairing _ _ is (ap found_of (c.of.ensures ∙ ap (λ (p : NamingModel). record { naming = p; verdicts = c.in_ok-verdicts.verdicts.items }) c.into_naming.ensures)) c.in_ok-verdicts.ensures.ok)
          (subst (λ choice. IsChosen input s.matching choice s.limit None o) (sym c.requires.named) (refl, within task input ga o c.in_ok-pairing.pairing s.limit is c.in_ok-verdicts.ensures.within));
      earlier_given_up = tt;
    }

pub returns-clause-named : goal.returns-clause-named
returns-clause-named g c =
    let task = c.args.task.now in
    let naming = subst (IsNamingIn task c.args.order.now) (sym (ap (λ (v : VerdictsModel). v.naming) c.of.ensures ∙ c.into_naming.ensures)) c.in_ok-pairing.ensures.paired.naming in (
      c.args.order.now,
      subst (λ choice. IsReportedOrder choice None task.settings.now.matching (circuit task.first.now) (circuit task.second.now) (condition task.given) c.args.order.now) (sym c.requires.named) refl,
      naming,
    )

pub returns-in_err-pairing-clause-no_decision : goal.returns-in_err-pairing-clause-no_decision
returns-in_err-pairing-clause-no_decision g c = λ input ga.
    let o = c.args.order.now in
    let fault = c.in_err-pairing.field-0.0 in
    let ends = order_ends fault c.in_err-pairing.ensures.refused.0 c.in_err-pairing.ensures.refused.1 in
    let e = err_from_is_err_and c.from_residual.result c.from_residual.ensures.1 in
    rw (e.1, e.2) (record {
      cause = (o, subst (λ choice. IsAllowed choice o) (sym c.requires.named) refl, c.in_err-pairing.ensures.fault input ga);
      answer = at_once input c.args.task.now.settings.now (g.G.Monitor.bound c.args.monitor.now) fault ends (λ may. absurd (subst MayGoByCones c.requires.named may));
      unwritten = λ e. subst EndsAtOnce e ends;
    })

pub returns-in_err-verdicts-clause-no_decision : goal.returns-in_err-verdicts-clause-no_decision
returns-in_err-verdicts-clause-no_decision g c = λ input ga.
    let task = c.args.task.now in
    let s = task.settings.now in
    let o = c.args.order.now in
    let bound = g.G.Monitor.bound c.args.monitor.now in
    let p = c.in_ok-pairing.pairing in
    let is = c.in_ok-pairing.ensures.paired in
    let fault = c.in_err-verdicts.field-0.0 in
    let has = c.in_err-verdicts.ensures in
    let allowed : IsAllowed s.order o = subst (λ choice. IsAllowed choice o) (sym c.requires.named) refl in
    let e = err_from_is_err_and c.from_residual-in_err-verdicts.result c.from_residual-in_err-verdicts.ensures.1 in
    rw (e.1, e.2) (record {
      cause = (o, allowed, late_fault input ⊥ ⊥ ⊥ s.order s.matching o fault (accepted_paired task input ga s.order o p is) has.err);
      answer = from_each input s bound fault (record {
        full = λ full. subst (λ choice. InEachOrder input s.matching choice (λ k. AreBeyond input s.matching k s.limit)) (sym c.requires.named) (beyond task input ga o p s.limit is (has.full (ap Err full)));
        given_up = λ none. absurd (subst IsComparisonFault none has.err);
        by_cones = λ may. absurd (subst MayGoByCones c.requires.named may);
        any_number_of_inputs = λ may. absurd (subst MayGoByCones c.requires.named may);
        only = λ none. absurd (subst IsComparisonFault none has.err);
        past = λ past. (
          o,
          subst (λ choice. IsNamedIn input s.matching choice o) (sym c.requires.named) refl,
          wide_given input s.matching o (circuit task.first.now) (circuit task.second.now) (condition task.given) p (record { netlists = ga; pairing = is }) bound.requests (has.past (ap Err past)),
        );
        stopped = λ stopped. (λ may. subst MayGoByCones c.requires.named may, has.stopped (ap Err stopped));
        needs_no_thread = λ less none. has.needs_no_thread less (ap Err none);
        thread_for_named_order = λ _. subst NamesOrder (sym c.requires.named) tt;
      });
      unwritten = λ none. subst IsComparisonFault none has.err;
    })
