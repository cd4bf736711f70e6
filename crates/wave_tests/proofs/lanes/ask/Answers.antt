use Rattle.std.proofs.Common.{ℕ, ◌<◌, List, length, map, sym, subst, arith}
use Rattle.req_table.specs.declared.Key.{Key}
use Rattle.lane_queue.specs.Loads.{ask_of}
use Rattle.wave_tests.proofs.lanes.ask.Goals as goal

pub send-requires-clause-some : goal.send-requires-clause-some
send-requires-clause-some g c = subst (λ (l : List (ℕ × Key)). 0 < length (map (ask_of c.number-from.result) l)) (sym c.one-asks.ensures) (omega arith)
