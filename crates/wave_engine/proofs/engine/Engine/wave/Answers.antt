use Rattle.std.proofs.Common.{ℕ, OnOk, subst, arith}
use Rattle.wave_engine.specs.CacheProbe.{unknown}
use Rattle.wave_engine.specs.Bounds.{AreAtMost}
use Rattle.wave_engine.proofs.Both.{past_bound}
use Rattle.wave_engine.proofs.engine.Engine.wave.Goals as goal

pub returns-clause-past : goal.returns-clause-past
returns-clause-past g c = λ refused.
    past_bound c.args.store.now (unknown c.args.self.now.held c.args.entries.now) c.args.self.now.bound.requests c.most_requests-most.result c.most_requests-most.ensures (c.wave_within.ensures.bounded refused) (c.wave_within.ensures.past refused)

pub returns-clause-within_bound : goal.returns-clause-within_bound
returns-clause-within_bound g c = λ bounded.
    let is = c.most_requests-most.ensures in
    subst (λ (n : ℕ). OnOk c.wave_within.result (AreAtMost n c.args.store.now (unknown c.args.self.now.held c.args.entries.now))) is (c.wave_within.ensures.within_bound (omega (arith, is, bounded)))
