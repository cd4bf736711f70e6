use Rattle.wave_core.proofs.Cores.{core_at, records_close_ok}
use Rattle.wave_core.proofs.waves.Core.into_records.Goals as goal

pub returns-clause-closure : goal.returns-clause-closure
returns-clause-closure c = records_close_ok (core_at c.self.inside.store.now c.self.inside.machine c.self.inside.roots.now) c.args.self c.self.view_is c.self.invariant c.records_by_level.result c.records_by_level.ensures.rows
