use Rattle.std.proofs.Common.{arith}
use Rattle.net_bench.proofs.Deep.{all_settled}
use Rattle.net_bench.proofs.walk.set_heights.Goals as goal

pub returns-clause-settled : goal.returns-clause-settled
returns-clause-settled c =
    all_settled c.args.gates.now c.loop-place.heights c.loop-place.begun.items (λ k d low. let out = c.requires.outs k d low in omega (arith, out, c.loop-place.auto.heights)) c.requires.one_gate c.loop-place.invariant.ranking
    (λ p low. c.loop-place.invariant.all p (omega (arith, low, c.loop-place-test.false)))
