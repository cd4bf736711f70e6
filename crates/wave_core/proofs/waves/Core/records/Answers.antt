use Rattle.std.proofs.Common.{rules}
use Rattle.wave_core.proofs.Cores.{core_at}
use Rattle.wave_core.proofs.Stepped.{records_placed, records_once}
use Rattle.wave_core.proofs.waves.Core.records.Goals as goal

pub returns-clause-placed : goal.returns-clause-placed
returns-clause-placed c =
    records_placed (core_at c.self.inside.store.now c.self.inside.machine c.self.inside.roots.now) c.args.self.now c.self.view_is c.self.invariant c.args.by c.args.level c.requires.by c.requires.level c.records.result.now (search rules)

pub returns-clause-once : goal.returns-clause-once
returns-clause-once c =
    records_once (core_at c.self.inside.store.now c.self.inside.machine c.self.inside.roots.now) c.args.self.now c.self.view_is c.self.invariant c.args.by c.args.level c.requires.by c.requires.level c.records.result.now (search rules)
