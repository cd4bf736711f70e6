use Rattle.std.proofs.Common.{sym, subst}
use Rattle.dd_store.specs.Levels.{list_at}
use Rattle.reduce_up.specs.Sharing.{AreDivided}
use Rattle.wave_doors.proofs.Shared.{ready, adds_pairs, pairs_there, pairs_refused}
use Rattle.wave_doors.proofs.parallel.add_pairs.Goals as goal

pub add_all-requires-clause-ready : goal.add_all-requires-clause-ready
add_all-requires-clause-ready g c κs within =
    ready c.args.store.now c.args.level c.args.pairs.now (list_at c.as_slice.result.now) c.requires.level c.requires.ready
    (subst (λ z. AreDivided c.args.pairs.now (list_at z)) (sym c.as_slice.ensures.value) c.in-Ok.ensures.divided)

pub returns-in-Ok-clause-adds : goal.returns-in-Ok-clause-adds
returns-in-Ok-clause-adds g c =
    adds_pairs c.args.store.now c.add_all.new.self c.args.level c.args.pairs.now (list_at c.as_slice.result.now) c.add_all.ensures.grows
    (subst (λ z. AreDivided c.args.pairs.now (list_at z)) (sym c.as_slice.ensures.value) c.in-Ok.ensures.divided)

pub returns-in-Ok-clause-there : goal.returns-in-Ok-clause-there
returns-in-Ok-clause-there g c =
    pairs_there c.add_all.new.self c.args.level c.args.pairs.now (list_at c.as_slice.result.now) c.add_all.result
    (subst (λ z. AreDivided c.args.pairs.now (list_at z)) (sym c.as_slice.ensures.value) c.in-Ok.ensures.divided) c.add_all.ensures.answer

pub returns-in-Ok-clause-fault : goal.returns-in-Ok-clause-fault
returns-in-Ok-clause-fault g c =
    pairs_refused c.add_all.new.self c.args.level c.args.pairs.now (list_at c.as_slice.result.now) c.add_all.result c.add_all.ensures.sound
    (subst (λ z. AreDivided c.args.pairs.now (list_at z)) (sym c.as_slice.ensures.value) c.in-Ok.ensures.divided) c.add_all.ensures.answer
