use Rattle.lane_queue.specs.PortView.{IsPortOf}
use Rattle.wave_tests.proofs.lanes.send_in_turn.Given as goal

abbrev pub invariant-loop : goal.invariant-loop
invariant-loop g l = IsPortOf l.lanes l.port
