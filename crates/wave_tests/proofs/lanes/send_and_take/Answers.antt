use denote.Param.Send.{sendable, param_send, arg_send}
use Rattle.std.proofs.Crossing.{crosses, frees}
use Rattle.lane_queue.proofs.Sent.{port_send}
use Rattle.wave_tests.proofs.lanes.Crossing.{sender_send}
use Rattle.wave_tests.proofs.lanes.send_and_take.Goals as goal

pub join-first-requires-send-F : goal.join-first-requires-send-F
join-first-requires-send-F g c κs within = let r = c.type_bounds.sync-R in search (param_send, arg_send, sender_send, r)

pub join-first-requires-send-A : goal.join-first-requires-send-A
join-first-requires-send-A g c κs within = search (sendable, port_send, crosses, frees) depth 30
