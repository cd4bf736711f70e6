use Rattle.std.proofs.Common.{ap, ◌∙◌, arith}
use Rattle.lane_queue.specs.Joining.{root_pass_view, JoinedTo}
use Rattle.lane_queue.proofs.Rounds.{element, live-now, joining-more, joined-all}
use Rattle.lane_queue.proofs.join.join_endpoints.Goals as goal

pub retire-pass-requires : goal.retire-pass-requires
retire-pass-requires c = live-now c.loop-lane.lane c.args.workers c.args.lanes.now.items c.args.endpoints.now.items c.loop-lane.endpoints.items _ _ (λ i d f lt. (c.requires.may_join i d (element c.args.roots.now.items i (omega arith)) f lt).live)
    c.loop-lane.invariant.lines_turned (omega arith) (omega arith) (omega arith) c.index-queue.ensures c.index_mut.ensures.value

pub loop-lane-preserved : goal.loop-lane-preserved
loop-lane-preserved c =
    joining-more c.loop-lane.lane c.args.lanes.now.items c.args.roots.now.items c.loop-lane.roots.items c.args.endpoints.now.items c.loop-lane.endpoints.items c.index-queue.result.now c.index_mut-in-loop-lane.result.now _ c.index_mut.result.now c.retire-pass.new.endpoint
    c.loop-lane.invariant (omega arith) (omega arith) (omega arith) c.index-queue.ensures c.index_mut-in-loop-lane.ensures.value c.index_mut.ensures.value c.join.ensures.queue (c.join.ensures.joined ∙ ap (λ w. JoinedTo (root_pass_view c.index_mut-in-loop-lane.result.now) w) c.retire-pass.ensures.pass.1) c.retire-pass.ensures.endpoint

pub returns-clause-joined : goal.returns-clause-joined
returns-clause-joined c = joined-all c.loop-lane.lane c.args.workers c.args.lanes.now.items c.args.roots.now.items c.loop-lane.roots.items c.args.endpoints.now.items c.loop-lane.endpoints.items c.loop-lane.invariant (omega arith)
