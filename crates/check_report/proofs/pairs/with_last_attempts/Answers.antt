use Rattle.std.proofs.Common.{◌∙◌, ap, sym, subst, refl, None}
use Rattle.net_bench.specs.Circuit.{circuit}
use Rattle.net_names.specs.declared.order.Order.TheVariants as orders
use Rattle.net_order.specs.Order.{condition}
use Rattle.compare_built.specs.Findings.{VerdictsModel, found_of}
use Rattle.compare_built.specs.Attempts.{MayGoByCones}
use Rattle.order_search.specs.Trials.{IsNamingIn, IsPairingIn}
use Rattle.order_search.proofs.Namings.{as_pairing}
use Rattle.order_search.proofs.Rounds.{order_ends}
use Rattle.check_report.proofs.Findings.{declared_naming}
use Rattle.check_report.proofs.LastAttempts.{decided_by_pairs, decided_by_rest, given_up_by_rest, given_up_last, many_before, may_take, none_open}
use Rattle.check_report.proofs.pairs.with_last_attempts.Goals as goal

-- ---- no pair is open

pub returns-then-not-is_any_open-clause-decision : goal.returns-then-not-is_any_open-clause-decision
returns-then-not-is_any_open-clause-decision g c = λ input ga.
    let task = c.args.task.now in
    let bound = g.G.Monitor.bound c.args.monitor.now in
    let found = found_of c.args.verdicts in
    decided_by_pairs task input ga bound c.args.verdicts.naming found c.requires.naming (may_take task input ga bound c.args.before c.requires.auto c.requires.before) c.requires.found
    (none_open task input ga bound found c.requires.auto (let said = c.is_any_open.ensures in let same = c.as_slice.ensures in let none = c.if-not-is_any_open.true in cc))

pub returns-then-not-is_any_open-clause-named : goal.returns-then-not-is_any_open-clause-named
returns-then-not-is_any_open-clause-named g c = declared_naming c.args.task.now None _ (subst MayGoByCones (sym c.requires.auto) tt) c.requires.naming

-- ---- no naming, or no pairing

pub as_comparison_fault-requires : goal.as_comparison_fault-requires
as_comparison_fault-requires g c = order_ends c.in-Err.fault c.in-Err.ensures.refused.0 c.in-Err.ensures.refused.1

pub returns-in-Err-of-clause-decision : goal.returns-in-Err-of-clause-decision
returns-in-Err-of-clause-decision g c = λ input ga.
    let task = c.args.task.now in
    let bound = g.G.Monitor.bound c.args.monitor.now in
    let found = found_of c.args.verdicts in
    decided_by_pairs task input ga bound c.args.verdicts.naming found c.requires.naming (may_take task input ga bound c.args.before c.requires.auto c.requires.before) c.requires.found
    (many_before task input ga bound found c.in-Ok.naming c.requires.auto c.in-Ok.ensures.named c.in-Err-of.ensures.many)

pub returns-in-Err-of-clause-named : goal.returns-in-Err-of-clause-named
returns-in-Err-of-clause-named g c = declared_naming c.args.task.now None _ (subst MayGoByCones (sym c.requires.auto) tt) c.requires.naming

-- ---- the rest of the whole

pub try_rest-requires-clause-verdict_order : goal.try_rest-requires-clause-verdict_order
try_rest-requires-clause-verdict_order g c κs within =
    let task = c.args.task.now in
    let is : IsPairingIn task orders.Declared c.in-Ok-of.pairing =
    subst (IsPairingIn task orders.Declared) (sym c.in-Ok-of.ensures.same)
    (as_pairing task.settings.now.matching (circuit task.first.now) (circuit task.second.now) (condition task.given) orders.Declared c.in-Ok.naming c.in-Ok.ensures.named c.in-Ok-of.ensures.few) in
    (orders.Declared, is, task.settings.now.no_sizes c.requires.auto)

pub returns-in-Ok-Some-clause-decision : goal.returns-in-Ok-Some-clause-decision
returns-in-Ok-Some-clause-decision g c = λ input ga.
    let task = c.args.task.now in
    let bound = g.G.Monitor.bound c.args.monitor.now in
    let is : IsPairingIn task orders.Declared c.in-Ok-of.pairing =
    subst (IsPairingIn task orders.Declared) (sym c.in-Ok-of.ensures.same)
    (as_pairing task.settings.now.matching (circuit task.first.now) (circuit task.second.now) (condition task.given) orders.Declared c.in-Ok.naming c.in-Ok.ensures.named c.in-Ok-of.ensures.few) in
    decided_by_rest task input ga bound _ c.in-Ok-of.pairing c.in-Ok-Some.decided _ _ c.requires.auto is refl c.in-Ok-Some.field-0-is c.in-Ok-Some.ensures.rest c.whole_verdicts.ensures.verdicts c.whole_verdicts.ensures.tried

pub returns-in-Ok-Some-clause-named : goal.returns-in-Ok-Some-clause-named
returns-in-Ok-Some-clause-named g c =
    let task = c.args.task.now in
    let same = ap (λ (v : VerdictsModel). v.naming) c.whole_verdicts.ensures.verdicts ∙ c.in-Ok-of.ensures.same in
    declared_naming task c.whole_verdicts.result.1 _ (subst MayGoByCones (sym c.requires.auto) tt) (subst (IsNamingIn task orders.Declared) (sym same) c.in-Ok.ensures.named)

pub returns-in-Ok-None-clause-decision : goal.returns-in-Ok-None-clause-decision
returns-in-Ok-None-clause-decision g c = λ input ga.
    let task = c.args.task.now in
    let bound = g.G.Monitor.bound c.args.monitor.now in
    let found = found_of c.args.verdicts in
    decided_by_pairs task input ga bound c.args.verdicts.naming found c.requires.naming (may_take task input ga bound c.args.before c.requires.auto c.requires.before) c.requires.found
    (given_up_last task input ga bound found c.requires.auto (given_up_by_rest task bound _ c.in-Ok-None.field-0-is c.in-Ok-None.ensures.rest))

pub returns-in-Ok-None-clause-named : goal.returns-in-Ok-None-clause-named
returns-in-Ok-None-clause-named g c = declared_naming c.args.task.now None _ (subst MayGoByCones (sym c.requires.auto) tt) c.requires.naming
