use Rattle.std.proofs.Common.{◌<◌, ◌-◌, ◌^◌, refl, sym, subst}
use Rattle.std.specs.Prelude.{Ok, Err}
use Rattle.req_table.specs.ComputedTables.{IsRight}
use Rattle.wave_engine.specs.CacheProbe.{unknown}
use Rattle.reduce_up.specs.Waves.{AnswersWave}
use Rattle.wave_engine.specs.Bounds.{AreAtMost}
use Rattle.wave_engine.specs.EngineView.{EngineView}
use Rattle.wave_engine.proofs.Both.{counted_on, counted_view, reduced_on, shared_on, divided_view}
use Rattle.wave_engine.proofs.engine.Engine.wave_within.Goals as goal

pub wave-requires-clause-right : goal.wave-requires-clause-right
wave-requires-clause-right g c κs within = subst (λ (e : EngineView). IsRight c.args.store.now e.held) (sym c.self.view_is) c.requires.right

pub returns-in-Ok-clause-wave : goal.returns-in-Ok-clause-wave
returns-in-Ok-clause-wave g c =
    subst (λ (e : EngineView). AnswersWave c.args.store.now c.args.entries.now (unknown e.held c.args.entries.now) (Ok c.in-Ok.answers) c.wave.new.store) c.self.view_is c.in-Ok.ensures.wave

pub returns-in-Err-clause-wave : goal.returns-in-Err-clause-wave
returns-in-Err-clause-wave g c =
    subst (λ (e : EngineView). AnswersWave c.args.store.now c.args.entries.now (unknown e.held c.args.entries.now) (Err c.in-Err.fault) c.wave.new.store) c.self.view_is c.in-Err.ensures.wave

pub returns-in-Ok-clause-within_bound : goal.returns-in-Ok-clause-within_bound
returns-in-Ok-clause-within_bound g c =
    subst (λ (e : EngineView). c.args.most < 2 ^ 64 - 1 → AreAtMost c.args.most c.args.store.now (unknown e.held c.args.entries.now)) c.self.view_is c.in-Ok.ensures.within_bound

pub returns-in-Ok-clause-expanded : goal.returns-in-Ok-clause-expanded
returns-in-Ok-clause-expanded g c =
    counted_view c.args.store.now c.args.entries.now _ _ _ c.self.view_is
    (counted_on _ _ c.expanded-before.result c.expanded.result _ _ _ c.expanded-before.ensures c.expanded.ensures refl refl c.args.store.now 1 _ c.in-Ok.ensures.expanded)

pub returns-in-Ok-clause-divided : goal.returns-in-Ok-clause-divided
returns-in-Ok-clause-divided g c =
    let made = c.in-Ok.ensures.divided in
    divided_view c.args.store.now c.args.entries.now _ _ _ c.self.view_is _ (record {
      level = made.level;
      above = reduced_on _ _ c.reduced-made.result c.reduced.result _ _ _ c.reduced-made.ensures c.reduced.ensures refl refl c.args.store.now _ made.level made.above;
      below = shared_on _ _ c.by_workers-shared.result c.by_workers.result _ _ _ c.by_workers-shared.ensures c.by_workers.ensures refl refl c.args.store.now _ made.level made.below;
    })
