use Rattle.std.proofs.Common.{subst, Some}
use Rattle.order_search.specs.Trials.{AreAllGivenUp, IsFoundWithin}
use Rattle.order_search.proofs.Searching.{at_once}
use Rattle.check_report.proofs.whole.search_within.Goals as goal

pub returns-in-Ok-clause-searched : goal.returns-in-Ok-clause-searched
returns-in-Ok-clause-searched g c =
    subst (λ n. IsFoundWithin c.args.task.now (Some c.args.declared) n (g.G.Monitor.bound c.args.monitor.now) c.in-Ok.decided) c.min-limit.ensures c.in-Ok.ensures.found

pub returns-then-is_giving_up-clause-searched : goal.returns-then-is_giving_up-clause-searched
returns-then-is_giving_up-clause-searched g c =
    let given_up = c.is_giving_up.ensures.0 c.if-is_giving_up.true in (
      c.in-Err.ensures.trials given_up,
      subst (λ n. AreAllGivenUp c.args.task.now n (g.G.Monitor.bound c.args.monitor.now)) c.min-limit.ensures (c.in-Err.ensures.fault.given_up given_up),
    )

pub returns-clause-ends : goal.returns-clause-ends
returns-clause-ends g c =
    at_once c.in-Err.fault c.in-Err.ensures.fault.ends (λ given_up. let is = c.is_giving_up.ensures.1 given_up in let is_not = c.if-is_giving_up.false in cc)
