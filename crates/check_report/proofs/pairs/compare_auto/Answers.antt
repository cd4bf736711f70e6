use Rattle.std.proofs.Common.{◌∙◌, ap, sym, subst, Err, None}
use Rattle.std.proofs.lemmas.Result.{err_from_is_err_and}
use Rattle.net_bench.specs.Circuit.{circuit}
use Rattle.net_names.specs.declared.order.Order.TheVariants as orders
use Rattle.net_order.specs.Order.{condition}
use Rattle.compare_built.specs.Findings.{found_of}
use Rattle.compare_built.specs.Attempts.{MayGoByCones}
use Rattle.order_search.specs.Trials.{IsNamingIn, IsPairingIn}
use Rattle.order_search.proofs.Namings.{as_pairing}
use Rattle.check_report.proofs.Findings.{declared_naming, many_cause, unnamed}
use Rattle.check_report.proofs.LastAttempts.{decided_by_pairs, many_before, none_of_ends, none_of_pairs}
use Rattle.check_report.proofs.pairs.compare_auto.Goals as goal

-- ---- no naming

pub returns-in_err-naming-clause-no_decision : goal.returns-in_err-naming-clause-no_decision
returns-in_err-naming-clause-no_decision g c = λ input ga.
    let has = c.in_err-naming.ensures in
    let e = err_from_is_err_and c.from_residual.result c.from_residual.ensures.1 in
    rw (e.1, e.2)
    (unnamed input c.args.task.now.settings.now (g.G.Monitor.bound c.args.monitor.now) c.in_err-naming.field-0.0 has.refused.0 has.refused.1 (subst MayGoByCones (sym c.requires.auto) tt) (has.fault input ga)
    (λ many. has.any_number_of_inputs (ap Err many)))

-- ---- too many variables

pub merged_verdicts-requires-clause-naming : goal.merged_verdicts-requires-clause-naming
merged_verdicts-requires-clause-naming g c κs within = subst (IsNamingIn c.args.task.now orders.Declared) (sym c.in-Err.ensures.back) c.in_ok-naming.ensures.named

pub returns-in-Err-clause-decision : goal.returns-in-Err-clause-decision
returns-in-Err-clause-decision g c = λ input ga.
    let task = c.args.task.now in
    let bound = g.G.Monitor.bound c.args.monitor.now in
    let named = subst (IsNamingIn task orders.Declared) (sym c.in-Err.ensures.back) c.in_ok-naming.ensures.named in
    let found = found_of c.in_ok-verdicts-in-Err.verdicts in
    decided_by_pairs task input ga bound c.in-Err.naming found named (many_cause task input ga bound c.in_ok-naming.naming c.requires.auto c.in_ok-naming.ensures.named c.in-Err.ensures.many) c.in_ok-verdicts-in-Err.ensures.verdicts
    (many_before task input ga bound found c.in_ok-naming.naming c.requires.auto c.in_ok-naming.ensures.named c.in-Err.ensures.many)

pub returns-in-Err-clause-named : goal.returns-in-Err-clause-named
returns-in-Err-clause-named g c =
    declared_naming c.args.task.now None _ (subst MayGoByCones (sym c.requires.auto) tt)
    (subst (IsNamingIn c.args.task.now orders.Declared) (sym (c.in_ok-verdicts-in-Err.ensures.named ∙ c.in-Err.ensures.back)) c.in_ok-naming.ensures.named)

pub returns-in_err-verdicts-in-Err-clause-no_decision : goal.returns-in_err-verdicts-in-Err-clause-no_decision
returns-in_err-verdicts-in-Err-clause-no_decision g c = λ input ga.
    let e = err_from_is_err_and c.from_residual-in_err-verdicts-in-Err.result c.from_residual-in_err-verdicts-in-Err.ensures.1 in
    rw (e.1, e.2)
    (none_of_pairs c.args.task.now input ga (g.G.Monitor.bound c.args.monitor.now) c.in_ok-naming.naming c.in_err-verdicts-in-Err.field-0.0 (subst MayGoByCones (sym c.requires.auto) tt) c.in_ok-naming.ensures.named c.in_err-verdicts-in-Err.ensures.ends)

-- ---- any difference

pub compare_pairs_first-requires-clause-naming : goal.compare_pairs_first-requires-clause-naming
compare_pairs_first-requires-clause-naming g c κs within =
    subst (IsNamingIn c.args.task.now orders.Declared) (sym (c.into_naming.ensures ∙ c.in-Ok.ensures.same)) c.in_ok-naming.ensures.named

pub returns-in-AnyOne-clause-no_decision : goal.returns-in-AnyOne-clause-no_decision
returns-in-AnyOne-clause-no_decision g c = λ input ga.
    none_of_ends c.args.task.now input ga (g.G.Monitor.bound c.args.monitor.now) c.in_ok-naming.naming c.compare_pairs_first.result (subst MayGoByCones (sym c.requires.auto) tt) c.in_ok-naming.ensures.named c.compare_pairs_first.ensures.ends

-- ---- the least difference

pub compare_whole_first-requires-clause-pairing : goal.compare_whole_first-requires-clause-pairing
compare_whole_first-requires-clause-pairing g c κs within =
    let task = c.args.task.now in
    subst (IsPairingIn task orders.Declared) (sym c.in-Ok.ensures.same)
    (as_pairing task.settings.now.matching (circuit task.first.now) (circuit task.second.now) (condition task.given) orders.Declared c.in_ok-naming.naming c.in_ok-naming.ensures.named c.in-Ok.ensures.few)

pub returns-in-Least-clause-no_decision : goal.returns-in-Least-clause-no_decision
returns-in-Least-clause-no_decision g c = λ input ga.
    none_of_ends c.args.task.now input ga (g.G.Monitor.bound c.args.monitor.now) c.in_ok-naming.naming c.compare_whole_first.result (subst MayGoByCones (sym c.requires.auto) tt) c.in_ok-naming.ensures.named c.compare_whole_first.ensures.ends
