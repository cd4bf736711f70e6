use Rattle.std.proofs.Common.{ap, subst, sym, Err, None}
use Rattle.std.proofs.lemmas.Result.{err_from_is_err_and}
use Rattle.net_names.specs.declared.order.Order.TheVariants.{Declared}
use Rattle.order_search.specs.Trials.{IsNamingIn}
use Rattle.compare_built.specs.Findings.{found_of}
use Rattle.check_report.proofs.Findings.{declared_naming, unnamed}
use Rattle.check_report.proofs.LastAttempts.{decided_by_pairs, goes_by_cones, last_of_cones, none_of_pairs, takes_cones}
use Rattle.check_report.proofs.pairs.compare_by_cones.Goals as goal

pub returns-clause-decision : goal.returns-clause-decision
returns-clause-decision g c = λ input ga.
    let task = c.args.task.now in
    let s = task.settings.now in
    let bound = g.G.Monitor.bound c.args.monitor.now in
    let found = found_of c.in_ok-verdicts.verdicts in
    decided_by_pairs task input ga bound c.in_ok-naming.naming found c.in_ok-naming.ensures.named (takes_cones input s bound s.order c.requires.picks) c.in_ok-verdicts.ensures.verdicts (last_of_cones input s bound found c.requires.picks)

pub returns-clause-named : goal.returns-clause-named
returns-clause-named g c =
    declared_naming c.args.task.now None _ (goes_by_cones c.args.task.now.settings.now.order c.requires.picks) (subst (IsNamingIn c.args.task.now Declared) (sym c.in_ok-verdicts.ensures.named) c.in_ok-naming.ensures.named)

pub returns-in_err-naming-clause-no_decision : goal.returns-in_err-naming-clause-no_decision
returns-in_err-naming-clause-no_decision g c = λ input ga.
    let has = c.in_err-naming.ensures in
    let e = err_from_is_err_and c.from_residual.result c.from_residual.ensures.1 in
    rw (e.1, e.2)
    (unnamed input c.args.task.now.settings.now (g.G.Monitor.bound c.args.monitor.now) c.in_err-naming.field-0.0 has.refused.0 has.refused.1 (goes_by_cones c.args.task.now.settings.now.order c.requires.picks) (has.fault input ga)
    (λ many. has.any_number_of_inputs (ap Err many)))

pub returns-in_err-verdicts-clause-no_decision : goal.returns-in_err-verdicts-clause-no_decision
returns-in_err-verdicts-clause-no_decision g c = λ input ga.
    let e = err_from_is_err_and c.from_residual-in_err-verdicts.result c.from_residual-in_err-verdicts.ensures.1 in
    rw (e.1, e.2)
    (none_of_pairs c.args.task.now input ga (g.G.Monitor.bound c.args.monitor.now) c.in_ok-naming.naming c.in_err-verdicts.field-0.0 (goes_by_cones c.args.task.now.settings.now.order c.requires.picks) c.in_ok-naming.ensures.named c.in_err-verdicts.ensures.ends)
