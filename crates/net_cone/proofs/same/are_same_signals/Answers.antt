use Rattle.std.proofs.Common.{arith}
use Rattle.std.proofs.lemmas.List.{ext_get_or}
use Rattle.net_cone.proofs.same.are_same_signals.Goals as goal

pub returns : goal.returns
returns c =
    let end = c.loop-place-test.false in
    λ _. ext_get_or 0 c.args.ones.now c.args.others.now c.loop-place.invariant.each (λ k lt. c.loop-place.invariant.same k (omega (arith, lt, end)))
