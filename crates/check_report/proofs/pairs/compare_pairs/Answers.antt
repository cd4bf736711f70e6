use Rattle.std.proofs.Common.{sym, subst}
use Rattle.net_names.specs.declared.order.Order.TheVariants.{Declared}
use Rattle.order_search.specs.Trials.{IsNamingIn}
use Rattle.compare_built.specs.Findings.{found_of}
use Rattle.cone_check.specs.ConeRounds.{IsFoundByCones}
use Rattle.check_report.proofs.pairs.compare_pairs.Goals as goal

pub verdicts_by_cones-requires-clause-equal : goal.verdicts_by_cones-requires-clause-equal
verdicts_by_cones-requires-clause-equal g c κs within = rw c.as_slice.ensures.value c.in_ok-equal.ensures

pub with_last_attempts-requires-clause-naming : goal.with_last_attempts-requires-clause-naming
with_last_attempts-requires-clause-naming g c κs within = subst (IsNamingIn c.args.task.now Declared) (sym c.in_ok-verdicts.ensures.named) c.requires.naming

pub with_last_attempts-requires-clause-found : goal.with_last_attempts-requires-clause-found
with_last_attempts-requires-clause-found g c κs within =
    subst (λ p. IsFoundByCones c.args.task.now (g.G.Monitor.bound c.args.monitor.now) p (found_of c.in_ok-verdicts.verdicts)) (sym c.in_ok-verdicts.ensures.named) c.in_ok-verdicts.ensures.verdicts
