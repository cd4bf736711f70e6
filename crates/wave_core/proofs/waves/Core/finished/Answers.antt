use Rattle.wave_core.proofs.Cores.{core_at, finish_says, finish_settles}
use Rattle.wave_core.proofs.waves.Core.finished.Goals as goal

pub returns-clause-value : goal.returns-clause-value
returns-clause-value c = finish_says (core_at c.self.inside.store.now c.self.inside.machine c.self.inside.roots.now) c.args.self.now c.self.view_is c.self.invariant.levels c.is_finished.result c.is_finished.ensures

pub returns-clause-settled : goal.returns-clause-settled
returns-clause-settled c =
    let x = core_at c.self.inside.store.now c.self.inside.machine c.self.inside.roots.now in
    finish_settles x c.args.self.now c.self.view_is c.is_finished.result c.self.invariant (finish_says x c.args.self.now c.self.view_is c.self.invariant.levels c.is_finished.result c.is_finished.ensures)
