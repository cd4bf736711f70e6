use Rattle.std.proofs.Common.{rules, ◌≡◌, ap, subst, arith, Err, OnOk}
use Rattle.dd_store.specs.Nodes.{Nodes}
use Rattle.expand_work.specs.Bounds.{WaveBound, most_of}
use Rattle.expand_work.specs.declared.fault.WaveFault.TheVariants.{TooManyRequests}
use Rattle.wave_engine.specs.Bounds.{AreAtMost}
use Rattle.wave_engine.proofs.engine.Engine.wave_counting_all.Goals as goal

pub returns-in-Err-TooManyRequests-clause-within_bound : goal.returns-in-Err-TooManyRequests-clause-within_bound
returns-in-Err-TooManyRequests-clause-within_bound g c = λ bounded.
    let refused : c.wave_since.result ≡ Err TooManyRequests = search rules in
    let at : most_of c.wave_since.new.self.bound.requests ≡ most_of c.args.self.now.bound.requests = ap (λ (z : WaveBound). most_of z.requests) c.wave_since.ensures.bound in
    subst (λ n. OnOk c.wave_anew.result (AreAtMost n c.args.store.now c.args.entries.now)) at
    (subst (λ (z : Nodes). OnOk c.wave_anew.result (AreAtMost (most_of c.wave_since.new.self.bound.requests) z c.args.entries.now)) (c.wave_since.ensures.unreduced refused)
    (c.wave_anew.ensures.within_bound (omega (arith, at, bounded))))
