use Rattle.std.proofs.Common.{rules}
use Rattle.wave_core.proofs.Cores.{core_at}
use Rattle.wave_core.proofs.Stepped.{taken_lane, taken_front}
use Rattle.wave_core.proofs.waves.Core.taken.Goals as goal

pub returns-clause-lane : goal.returns-clause-lane
returns-clause-lane c = taken_lane (core_at c.self.inside.store.now c.self.inside.machine c.self.inside.roots.now) c.args.self.now c.self.view_is c.self.invariant c.args.by c.requires c.taken.result.now (search rules)

pub returns-clause-prefix : goal.returns-clause-prefix
returns-clause-prefix c = taken_front (core_at c.self.inside.store.now c.self.inside.machine c.self.inside.roots.now) c.args.self.now c.self.view_is c.self.invariant c.args.by c.requires c.taken.result.now (search rules)
