use Rattle.std.proofs.Common.{◌≡◌, inl, refl, ap, arith}
use Rattle.expand_work.specs.Bounds.{WaveBound, most_of}
use Rattle.expand_work.specs.declared.fault.WaveFault.TheVariants.{OutOfMemory}
use Rattle.reduce_up.proofs.Waving.{wave_unchanged}
use Rattle.wave_engine.specs.CacheProbe.{unknown}
use Rattle.wave_engine.proofs.Held.{by_nothing}
use Rattle.wave_engine.proofs.engine.Engine.wave_anew.Goals as goal

pub wave_since-requires-clause-most : goal.wave_since-requires-clause-most
wave_since-requires-clause-most g c κs within = λ bounded.
    let none = c.in-Ok.ensures.since in
    let same = c.forget.ensures.bound in
    let most = c.requires.most in
    let at : most_of c.forget.new.self.bound.requests ≡ most_of c.args.self.now.bound.requests = ap (λ (z : WaveBound). most_of z.requests) same in
    omega (arith, none, most, at)

pub wave_since-requires-clause-counts_all : goal.wave_since-requires-clause-counts_all
wave_since-requires-clause-counts_all g c κs within = c.in-Ok.ensures.counts_all c.args.store.now

pub wave_since-requires-clause-right : goal.wave_since-requires-clause-right
wave_since-requires-clause-right g c κs within = c.in-Ok.ensures.right c.args.store.now

pub returns-in-Ok-clause-wave : goal.returns-in-Ok-clause-wave
returns-in-Ok-clause-wave g c = by_nothing c.args.store.now c.args.entries.now c.wave_since.result c.wave_since.new.store c.forget.new.self.held c.args.self.now.held c.wave_since.new.self.held c.in-Ok.ensures.empty c.wave_since.ensures.wave

pub returns-in-Err-clause-wave : goal.returns-in-Err-clause-wave
returns-in-Err-clause-wave g c = record {
  held = c.args.self.now.held;
  known = inl refl;
  wave = wave_unchanged c.args.store.now c.args.entries.now (unknown c.args.self.now.held c.args.entries.now) OutOfMemory c.levels.ensures.sound tt;
  kept = tt;
}
