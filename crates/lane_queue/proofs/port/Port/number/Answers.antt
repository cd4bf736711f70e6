use Rattle.std.proofs.Common.{subst}
use Rattle.lane_queue.specs.PortView.{AgreesWithOwnLane}
use Rattle.lane_queue.proofs.Keeping.{own-prefix}
use Rattle.lane_queue.proofs.port.Port.number.Goals as goal

pub returns-clause-own : goal.returns-clause-own
returns-clause-own c = own-prefix c.args.self.now (subst AgreesWithOwnLane c.self.view_is c.self.invariant.1)
