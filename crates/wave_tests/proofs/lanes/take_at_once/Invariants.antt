use Rattle.lane_queue.specs.PortView.{IsPortOf}
use Rattle.wave_tests.proofs.lanes.take_at_once.Given as goal

abbrev pub invariant-loop : goal.invariant-loop
invariant-loop g l = IsPortOf l.lanes l.port
