use Rattle.std.proofs.Common.{true}
use Rattle.order_search.proofs.AheadRuns.{run_ended}
use Rattle.order_search.proofs.ahead.run_of.Goals as goal

pub returns-in-Err : goal.returns-in-Err
returns-in-Err g c =
    run_ended c.args.task.now c.args.declared c.args.budget (g.G.Monitor.bound c.args.monitor.now.monitor.now) true c.args.trial.now c.in-Err.fault c.ended_by.result c.ended_by.ensures c.in-Err.ensures.fault
