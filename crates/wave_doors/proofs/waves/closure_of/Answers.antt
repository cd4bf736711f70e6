use Rattle.std.proofs.Common.{rules}
use Rattle.wave_core.specs.Cores.{core_wave, core_state}
use Rattle.wave_core.specs.Step.{IsFinished}
use Rattle.wave_doors.proofs.Driven.{driven_closure}
use Rattle.wave_doors.proofs.waves.closure_of.Goals as goal

pub returns : goal.returns
returns c =
    let finished : IsFinished (core_wave c.drive.new.self) (core_state c.drive.new.self) = search rules in
    driven_closure c.args.store.now c.args.workers c.args.roots.now c.in_ok-core.core c.drive.new.self c.in_ok-core.ensures.new c.drive.ensures.same
    c.into_records.result c.into_records.ensures.levels (c.into_records.ensures.closure finished)
