use Rattle.std.proofs.Common.{ap, sym, subst, refl, inr}
use Rattle.net_names.specs.declared.order.Order.TheVariants as orders
use Rattle.compare_built.specs.Findings.{VerdictsModel}
use Rattle.compare_built.specs.Attempts.{MayGoByCones}
use Rattle.order_search.specs.Trials.{IsNamingIn}
use Rattle.check_report.proofs.Findings.{declared_naming}
use Rattle.check_report.proofs.LastAttempts.{decided_by_first, searched_first}
use Rattle.check_report.proofs.pairs.compare_whole_first.Goals as goal

pub search_within-requires-clause-verdict_order : goal.search_within-requires-clause-verdict_order
search_within-requires-clause-verdict_order g c κs within = (orders.Declared, c.requires.pairing, c.args.task.now.settings.now.no_sizes c.requires.auto)

pub returns-in-Ok-Decided-clause-decision : goal.returns-in-Ok-Decided-clause-decision
returns-in-Ok-Decided-clause-decision g c = λ input ga.
    decided_by_first c.args.task.now input ga (g.G.Monitor.bound c.args.monitor.now) _ c.args.declared c.in-Ok-Decided.decided _ _ c.requires.auto c.requires.pairing refl c.in-Ok-Decided.field-0-is c.in-Ok-Decided.ensures.searched
    c.whole_verdicts.ensures.verdicts c.whole_verdicts.ensures.tried

pub returns-in-Ok-Decided-clause-named : goal.returns-in-Ok-Decided-clause-named
returns-in-Ok-Decided-clause-named g c =
    declared_naming c.args.task.now c.whole_verdicts.result.1 _ (subst MayGoByCones (sym c.requires.auto) tt)
    (subst (IsNamingIn c.args.task.now orders.Declared) (sym (ap (λ (v : VerdictsModel). v.naming) c.whole_verdicts.ensures.verdicts)) c.requires.pairing.naming)

pub compare_after_search-requires-clause-trials : goal.compare_after_search-requires-clause-trials
compare_after_search-requires-clause-trials g c κs within = (searched_first c.args.task.now (g.G.Monitor.bound c.args.monitor.now) _ c.in-Ok-GivenUp.field-0-is c.in-Ok-GivenUp.ensures.searched).0

pub compare_after_search-requires-clause-given_up : goal.compare_after_search-requires-clause-given_up
compare_after_search-requires-clause-given_up g c κs within = (searched_first c.args.task.now (g.G.Monitor.bound c.args.monitor.now) _ c.in-Ok-GivenUp.field-0-is c.in-Ok-GivenUp.ensures.searched).1

pub returns-in-Err-clause-ends : goal.returns-in-Err-clause-ends
returns-in-Err-clause-ends g c = inr c.as_comparison_fault.ensures
