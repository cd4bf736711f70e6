use Rattle.std.proofs.Common.{refl, arith}
use Rattle.lane_queue.proofs.Gathering.{gathered-first, roots-below, gathered-more, gathered-all}
use Rattle.lane_queue.proofs.settle.join_all.Goals as goal

pub loop-next-init : goal.loop-next-init
loop-next-init c = gathered-first c.args.workers _ c.args.lanes.now.items _ c.args.ports.now.items c.requires.ports _ c.index_mut.result.now c.begin_join.new.self c.in_ok-roots.roots.items c.requires.workers.0 c.index_mut.ensures.value c.in_ok-roots.ensures.roots.0 c.in_ok-roots.ensures.roots.1 c.in_ok-roots.ensures.kept c.in_ok-roots.ensures.port refl

pub join_to-requires-clause-below : goal.join_to-requires-clause-below
join_to-requires-clause-below c = roots-below c.args.workers _ c.args.lanes.now.items _ c.args.ports.now.items c.requires.ports c.loop-next.next c.loop-next.ports.items c.index_mut-in-loop-next.result.now c.loop-next.roots.items c.loop-next.invariant (omega arith) c.index_mut-in-loop-next.ensures.value

pub loop-next-preserved : goal.loop-next-preserved
loop-next-preserved c =
    gathered-more c.args.workers _ c.args.lanes.now.items _ c.args.ports.now.items c.requires.ports c.loop-next.next c.loop-next.ports.items _ c.index_mut-in-loop-next.result.now c.join_to.new.self c.loop-next.roots.items c.join_to.new.roots.items c.loop-next.invariant (omega arith) c.index_mut-in-loop-next.ensures.value
    c.join_to.ensures.roots.0 c.join_to.ensures.roots.1 c.join_to.ensures.kept c.join_to.ensures.port refl

pub returns-clause-roots : goal.returns-clause-roots
returns-clause-roots c = (gathered-all c.args.workers _ c.args.lanes.now.items _ c.args.ports.now.items c.requires.ports c.loop-next.next c.loop-next.ports.items c.loop-next.roots.items c.loop-next.invariant (omega arith)).0

pub returns-clause-kept : goal.returns-clause-kept
returns-clause-kept c = (gathered-all c.args.workers _ c.args.lanes.now.items _ c.args.ports.now.items c.requires.ports c.loop-next.next c.loop-next.ports.items c.loop-next.roots.items c.loop-next.invariant (omega arith)).2
