use Rattle.std.proofs.Common.{arith}
use Rattle.cone_check.proofs.at_once.equal_verdicts.Goals as goal

pub returns : goal.returns
returns c =
    let last = c.loop-place-test.false in
    record {
      each = c.loop-place.invariant.each;
      places = λ i s e lt. c.loop-place.invariant.made i s e (omega (arith, lt, last));
    }
