use Rattle.order_search.proofs.Searching.{last_of}
use Rattle.order_search.proofs.attempts.try_declared.Goals as goal

pub try_candidate-requires-clause-own : goal.try_candidate-requires-clause-own
try_candidate-requires-clause-own g c κs within = c.requires.given_up.1.own

pub returns-clause-last : goal.returns-clause-last
returns-clause-last g c =
    last_of c.args.task.now c.args.declared c.args.budget (g.G.Monitor.bound c.args.monitor.now) c.args.tried.items c.try_candidate.new.trials.items c.try_candidate.result c.requires.given_up
    c.try_candidate.ensures.first_attempt
