use Rattle.std.proofs.Common.{rules, ◌≡◌, ◌∙◌, ◌<◌, ◌-◌, ◌^◌, inl, refl, sym, subst, arith, Err}
use Rattle.req_table.specs.ComputedTables.{ComputedView, IsRight}
use Rattle.expand_work.specs.Bounds.{WaveBound, most_of}
use Rattle.expand_work.specs.declared.fault.WaveFault.TheVariants.{TooManyRequests}
use Rattle.wave_engine.specs.CacheProbe.{IsKeptWave}
use Rattle.wave_engine.specs.Bounds.{AreMoreThan}
use Rattle.wave_engine.proofs.Held.{more_of_all, all_within, counted_after}
use Rattle.wave_engine.proofs.engine.Engine.wave_since.Goals as goal

pub returns-in-Ok-clause-wave : goal.returns-in-Ok-clause-wave
returns-in-Ok-clause-wave g c = record {
  held = c.args.self.now.held;
  known = inl refl;
  wave = c.in-Ok.ensures.wave;
  kept = subst (λ (m : ComputedView). IsKeptWave c.args.self.now.held c.args.entries.now c.in-Ok.answers.items m) (sym c.add_since.ensures.held) c.in-Ok.ensures.kept;
}

pub returns-in-Err-clause-wave : goal.returns-in-Err-clause-wave
returns-in-Err-clause-wave g c = record { held = c.args.self.now.held; known = inl refl; wave = c.in-Err.ensures.wave; kept = tt }

pub returns-in-Err-clause-past : goal.returns-in-Err-clause-past
returns-in-Err-clause-past g c =
    let past : c.wave_within.result ≡ Err TooManyRequests → AreMoreThan c.args.most c.args.store.now c.args.entries.now = λ refused.
    more_of_all c.args.most c.args.store.now c.args.self.now.held c.args.entries.now (c.wave_within.ensures.past refused) in
    search (rules, past)

pub returns-in-Ok-clause-within_bound : goal.returns-in-Ok-clause-within_bound
returns-in-Ok-clause-within_bound g c = λ bounded.
    let sum = c.requires.most bounded in
    all_within c.args.store.now c.levels.ensures.sound c.args.entries.now c.requires.operands c.args.self.now (c.requires.counts_all bounded) c.args.self.now.expanded c.wave_within.new.self.expanded c.in-Ok.ensures.expanded
    c.args.most (most_of c.args.self.now.bound.requests) sum (c.in-Ok.ensures.within_bound (omega (arith, sum, bounded)))

pub returns-in-Ok-clause-right : goal.returns-in-Ok-clause-right
returns-in-Ok-clause-right g c = subst (IsRight c.wave_within.new.store) (sym c.add_since.ensures.held) c.wave_within.ensures.right

pub returns-in-Ok-clause-counts_all : goal.returns-in-Ok-clause-counts_all
returns-in-Ok-clause-counts_all g c = λ bounded.
    let same = c.add_since.ensures.bound ∙ c.wave_within.ensures.bound in
    let limited : most_of c.args.self.now.bound.requests < 2 ^ 64 - 1 = subst (λ (z : WaveBound). most_of z.requests < 2 ^ 64 - 1) same bounded in
    let sum = c.requires.most limited in
    let low = c.expanded-before.type_inv in
    let high = c.expanded.type_inv in
    counted_after c.args.store.now c.levels.ensures.sound c.args.entries.now c.requires.operands c.args.self.now (c.requires.counts_all limited) c.args.self.now.expanded c.wave_within.new.self.expanded c.in-Ok.ensures.expanded
    c.wave_within.new.store c.wave_within.ensures.wave.adds.keeps c.in-Ok.answers.items c.wave_within.new.self.held c.in-Ok.ensures.kept c.add_since.new.self c.add_since.ensures.held same c.args.most _ sum
    (c.in-Ok.ensures.within_bound (omega (arith, sum, limited))) limited c.expanded-before.result c.expanded.result c.wave_within.new.self.since c.expanded-before.ensures c.expanded.ensures (omega (arith, low)) (omega (arith, high)) refl
    c.wave_within.ensures.since c.add_since.ensures.sum
