use Rattle.dd_store.specs.Levels.{all_at}
use Rattle.wave_tests.proofs.FourParts.{ready_four}
use Rattle.wave_tests.proofs.stores.make_four.Goals as goal

pub make_all-made-requires-clause-ready : goal.make_all-made-requires-clause-ready
make_all-made-requires-clause-ready g c κs within =
    let r = c.requires in
    rw c.as_slice.ensures.value (ready_four c.args.store.now c.args.b (all_at c.in_ok-parts.parts.items) r.levels r.here r.top r.shard c.in_ok-parts.ensures.only)
