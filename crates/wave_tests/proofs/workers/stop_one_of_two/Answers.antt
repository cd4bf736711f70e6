use denote.Param.Send.{param_send, arg_send}
use Rattle.wave_tests.proofs.lanes.Crossing.{worker_send}
use Rattle.wave_tests.proofs.workers.stop_one_of_two.Goals as goal

pub join-fault-requires-send-F : goal.join-fault-requires-send-F
join-fault-requires-send-F g c κs within = let r = c.type_bounds.sync-R in search (param_send, arg_send, worker_send, r)
