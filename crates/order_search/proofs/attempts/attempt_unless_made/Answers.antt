use Rattle.std.proofs.Common.{subst}
use Rattle.order_search.specs.Ahead.{IsRunOf}
use Rattle.order_search.proofs.attempts.attempt_unless_made.Goals as goal

pub returns-clause-ended : goal.returns-clause-ended
returns-clause-ended g c =
    subst (IsRunOf c.args.task.now c.args.declared c.args.budget (g.G.Monitor.bound c.args.monitor.now) c.args.trial.now) c.in-Some.is c.requires.run
