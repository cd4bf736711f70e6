use Rattle.std.proofs.Common.{◌<◌, subst, sym}
use Rattle.wave_core.specs.Cores.{CoreView}
use Rattle.wave_core.proofs.Cores.{core_at, taken_fair}
use Rattle.wave_core.proofs.Stepped.{closed_at}
use Rattle.wave_core.proofs.waves.Core.closed.Goals as goal

pub is_closed-requires-clause-fair : goal.is_closed-requires-clause-fair
is_closed-requires-clause-fair c = taken_fair c.self.inside.store.now c.self.inside.machine c.self.inside.roots.now c.args.by c.self.invariant (subst (λ (y : CoreView). c.args.by < y.machine.workers) (sym c.self.view_is) c.requires)

pub returns : goal.returns
returns c = closed_at (core_at c.self.inside.store.now c.self.inside.machine c.self.inside.roots.now) c.args.self.now c.self.view_is c.self.invariant.levels c.args.by c.args.level c.is_closed.result c.is_closed.ensures
