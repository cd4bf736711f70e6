use Rattle.std.proofs.Common.{subst, Some}
use Rattle.check_report.specs.Wholes.{AreTriedBefore}
use Rattle.check_report.proofs.Wholes.{searched_again}
use Rattle.check_report.proofs.whole.search_rest.Goals as goal

pub returns-in-Nothing-clause-rest : goal.returns-in-Nothing-clause-rest
returns-in-Nothing-clause-rest g c = searched_again c.args.task.now (Some c.args.declared) (g.G.Monitor.bound c.args.monitor.now) c.search_within.result c.search_within.ensures.searched

pub search_again-requires-clause-trials : goal.search_again-requires-clause-trials
search_again-requires-clause-trials g c κs within = (subst (AreTriedBefore c.args.task.now (g.G.Monitor.bound c.args.monitor.now)) c.in-First.is c.requires.before).0

pub search_again-requires-clause-given_up : goal.search_again-requires-clause-given_up
search_again-requires-clause-given_up g c κs within = (subst (AreTriedBefore c.args.task.now (g.G.Monitor.bound c.args.monitor.now)) c.in-First.is c.requires.before).1

pub returns-in-Second-clause-rest : goal.returns-in-Second-clause-rest
returns-in-Second-clause-rest g c = subst (AreTriedBefore c.args.task.now (g.G.Monitor.bound c.args.monitor.now)) c.in-Second.is c.requires.before
