use Rattle.wave_core.proofs.Starts.{dealt_next}
use Rattle.wave_core.proofs.start.distribute_roots.Goals as goal

pub loop-place-preserved : goal.loop-place-preserved
loop-place-preserved c =
    let next = dealt_next c.args.workers c.loop-place.place c.owner-to.result c.args.roots.now c.index-roots-place.result c.loop-place.due.items c.index_mut.result.now c.put.new.self
    c.requires.some c.loop-place.invariant.size c.loop-place.invariant.distributed c.loop-place-test.true c.index-roots-place.is c.owner-to.ensures c.index_mut.ensures.value c.in_ok-put.ensures.ok in
    record { size = next.0; distributed = next.1 }
