use Rattle.std.proofs.Common.{arith}
use Rattle.lane_queue.proofs.Rounds.{live-now, beginning-more, begun-all}
use Rattle.lane_queue.proofs.join.begin.Goals as goal

pub retire-pass-requires : goal.retire-pass-requires
retire-pass-requires c = live-now c.loop-lane.lane c.args.workers c.args.lanes.now.items c.args.endpoints.now.items c.loop-lane.endpoints.items _ _ c.requires.live c.loop-lane.invariant.0.turned (omega arith) (omega arith) (omega arith) c.index.ensures c.index_mut.ensures.value

pub loop-lane-preserved : goal.loop-lane-preserved
loop-lane-preserved c = (
  beginning-more c.loop-lane.lane c.args.lanes.now.items c.loop-lane.roots.items c.push_reserved.new.self.items c.args.endpoints.now.items c.loop-lane.endpoints.items c.index.result.now _ c.index_mut.result.now c.retire-pass.new.endpoint c.loop-lane.invariant.0 (omega arith) (omega arith) c.index.ensures c.index_mut.ensures.value
      c.retire-pass.ensures.pass c.retire-pass.ensures.endpoint c.push_reserved.ensures.items,
  omega arith,
)

pub returns-clause-begun : goal.returns-clause-begun
returns-clause-begun c = begun-all c.loop-lane.lane c.args.workers c.args.lanes.now.items c.loop-lane.roots.items c.args.endpoints.now.items c.loop-lane.endpoints.items c.loop-lane.invariant.0 (omega arith)
