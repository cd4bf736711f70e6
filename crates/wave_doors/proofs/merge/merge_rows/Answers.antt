use Rattle.wave_doors.proofs.Merging.{may_merge}
use Rattle.wave_doors.proofs.merge.merge_rows.Goals as goal

pub level_records-requires-clause-parts : goal.level_records-requires-clause-parts
level_records-requires-clause-parts c = may_merge c.args.store.now c.levels-level-end.ensures.sound c.args.workers c.args.roots.now c.requires.roots c.args.parts.now c.requires.parts
