use Rattle.std.proofs.lemmas.Result.{err_from_is_err_and}
use Rattle.reduce_up.specs.Waves.{entries_for}
use Rattle.reduce_up.proofs.Waving.{not_full, wave_unchanged}
use Rattle.reduce_up.proofs.waves.wave_by_workers.Goals as goal

pub returns-in_err-parts-clause-wave : goal.returns-in_err-parts-clause-wave
returns-in_err-parts-clause-wave g c =
    let E = entries_for c.args.roots.now in
    let e = err_from_is_err_and c.from_residual.result c.from_residual.ensures.1 in
    rw (e.1, e.2) (wave_unchanged c.args.store.now E E _ c.levels.ensures.sound (not_full c.args.store.now E c.args.store.now _ c.in_err-parts.ensures.fault))
