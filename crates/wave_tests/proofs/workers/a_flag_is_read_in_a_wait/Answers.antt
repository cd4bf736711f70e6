use Rattle.std.proofs.Common.{rules}
use Rattle.std.proofs.lemmas.List.Elements.{All-pop}
use Rattle.lane_queue.specs.PortView.{PortView, IsPortOf}
use Rattle.expand_work.specs.WorkerResult.{IsFresh}
use Rattle.wave_tests.proofs.workers.a_flag_is_read_in_a_wait.Goals as goal

pub stop_one_of_two-fault-requires-clause-first : goal.stop_one_of_two-fault-requires-clause-first
stop_one_of_two-fault-requires-clause-first g c κs =
    let P = λ (p : PortView). IsPortOf c.in_ok-lanes.lanes p in
    let one = All-pop P _ _ _ c.pop.ensures.items c.in_ok-lanes.ensures.ports in
    let two = All-pop P _ _ _ c.pop-2.ensures.items one.0 in
    let fresh_one = All-pop IsFresh _ _ _ c.pop.ensures.items c.in_ok-lanes.ensures.fresh in
    let fresh_two = All-pop IsFresh _ _ _ c.pop-2.ensures.items fresh_one.0 in
    let is = two.1 in
    let is_fresh = fresh_two.1 in
    search rules

pub stop_one_of_two-fault-requires-clause-second : goal.stop_one_of_two-fault-requires-clause-second
stop_one_of_two-fault-requires-clause-second g c κs =
    let P = λ (p : PortView). IsPortOf c.in_ok-lanes.lanes p in
    let one = All-pop P _ _ _ c.pop.ensures.items c.in_ok-lanes.ensures.ports in
    let is = one.1 in
    search rules
