use Rattle.wave_doors.proofs.Splits.{records_of_splits}
use Rattle.wave_doors.proofs.law.splits_are_records.Goals as goal

pub returns : goal.returns
returns c = records_of_splits c.args.store.now c.levels.ensures.sound c.args.records.now
