use Rattle.std.proofs.Common.{rules}
use Rattle.order_search.proofs.AheadRuns.{runs_none}
use Rattle.order_search.proofs.ahead.runs_ahead.Goals as goal

pub returns-then-count-eq0 : goal.returns-then-count-eq0
returns-then-count-eq0 g c =
    runs_none c.args.task.now c.args.declared c.args.budget (g.G.Monitor.bound c.args.monitor.now) c.args.trials.now c.new.result.items (search rules)

pub returns-in-Err : goal.returns-in-Err
returns-in-Err g c =
    runs_none c.args.task.now c.args.declared c.args.budget (g.G.Monitor.bound c.args.monitor.now) c.args.trials.now c.new-in-Err.result.items (search rules)
