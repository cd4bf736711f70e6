use Rattle.lane_queue.proofs.Rounds.{Joining}
use Rattle.lane_queue.proofs.join.join_endpoints.Given as goal

abbrev pub invariant-loop-lane : goal.invariant-loop-lane
invariant-loop-lane l = Joining l.lane l.lanes.items l.fn.roots.items l.roots.items l.fn.endpoints.items l.endpoints.items
