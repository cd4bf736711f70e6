use Rattle.std.proofs.Common.{ℕ, OnOk, subst, arith}
use Rattle.wave_engine.specs.CacheProbe.{unknown}
use Rattle.wave_engine.specs.Bounds.{AreAtMost}
use Rattle.wave_engine.proofs.Both.{past_bound}
use Rattle.wave_engine.proofs.waves.wave.Goals as goal

pub returns-clause-past : goal.returns-clause-past
returns-clause-past g c = λ refused.
    past_bound c.args.store.now (unknown c.args.computed.now c.args.entries.now) (g.G.Monitor.bound c.args.crew.now.monitor.now).requests c.most_requests-most.result c.most_requests-most.ensures.bound (c.wave.ensures.bounded refused)
    (c.wave.ensures.past refused)

pub returns-clause-within_bound : goal.returns-clause-within_bound
returns-clause-within_bound g c = λ bounded.
    let is = c.most_requests-most.ensures.bound in
    subst (λ (n : ℕ). OnOk c.wave.result (AreAtMost n c.args.store.now (unknown c.args.computed.now c.args.entries.now))) is (c.wave.ensures.within_bound (omega (arith, is, bounded)))
