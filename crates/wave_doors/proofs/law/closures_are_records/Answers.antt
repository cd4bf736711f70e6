use Rattle.reduce_up.proofs.Closed.{records_of_closure}
use Rattle.wave_doors.proofs.law.closures_are_records.Goals as goal

pub returns : goal.returns
returns c =
    records_of_closure c.args.store.now c.levels.ensures.sound c.requires.closure.0 c.args.roots.now c.requires.roots c.args.records.now c.requires.closure.1.closure c.requires.closure.1.levels
