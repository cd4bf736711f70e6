use Rattle.std.proofs.Common.{subst, sym}
use Rattle.std.specs.Prelude.{IfOk, IfSome}
use Rattle.cone_check.specs.ConeRounds.{AreConesWithin, IsListedLeft}
use Rattle.cone_check.proofs.pairs.try_listed.Goals as goal

pub returns-in-Some-clause-within : goal.returns-in-Some-clause-within
returns-in-Some-clause-within g c =
    subst (λ o. IfOk c.try_order.result (λ found. IfSome found (λ v. AreConesWithin c.args.task.now o c.args.budget))) (sym c.in-Some.is) c.try_order.ensures.within

pub returns-in-Some-clause-left : goal.returns-in-Some-clause-left
returns-in-Some-clause-left g c = λ e.
    subst (λ o. IsListedLeft c.args.task.now o c.args.budget (g.G.Monitor.bound c.args.monitor.now)) (sym c.in-Some.is) (c.try_order.ensures.left e)

pub returns-in-None-clause-left : goal.returns-in-None-clause-left
returns-in-None-clause-left g c = λ _.
    subst (λ o. IsListedLeft c.args.task.now o c.args.budget (g.G.Monitor.bound c.args.monitor.now)) (sym c.in-None.is) tt
