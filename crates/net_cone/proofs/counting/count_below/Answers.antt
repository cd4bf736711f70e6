use Rattle.net_cone.proofs.Unvisiting.{has_gates}
use Rattle.net_cone.proofs.counting.count_below.Goals as goal

pub returns-clause-gates : goal.returns-clause-gates
returns-clause-gates c = has_gates c.args.net.now c.args.root c.visit_below.new.seen c.in_ok-visit_below.ensures.below c.unvisit_all.result c.unvisit_all.ensures.gates
