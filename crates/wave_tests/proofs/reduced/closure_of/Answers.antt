use Rattle.std.proofs.Common.{rules, subst}
use Rattle.std.specs.Prelude.{IfOk}
use Rattle.wave_core.specs.Cores.{core_wave, core_state, IsNew}
use Rattle.wave_core.specs.Step.{IsFinished}
use Rattle.reduce_up.specs.Waves.{IsClosureOf}
use Rattle.wave_doors.proofs.Driven.{driven_closure}
use Rattle.wave_tests.proofs.reduced.closure_of.Goals as goal

pub returns : goal.returns
returns g c =
    let new : IsNew c.args.store.now 2 c.args.roots.now c.expect-core.result = subst (λ z. IfOk z (IsNew c.args.store.now 2 c.args.roots.now)) c.expect-core.ensures c.new.ensures.new in
    let finished : IsFinished (core_wave c.drive.new.self) (core_state c.drive.new.self) = search rules in
    subst (λ z. IfOk z (IsClosureOf c.args.store.now 2 c.args.roots.now)) c.expect.ensures
    (driven_closure c.args.store.now 2 c.args.roots.now c.expect-core.result c.drive.new.self new c.drive.ensures.same
    c.into_records.result c.into_records.ensures.levels (c.into_records.ensures.closure finished))
