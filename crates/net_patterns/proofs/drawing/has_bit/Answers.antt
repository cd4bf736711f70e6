use Rattle.std.proofs.Common.{◌==◌, ap}
use Rattle.std.proofs.lemmas.Nat.Bits.{shr_and_one}
use Rattle.net_simulate.specs.Columns.{bit_in}
use Rattle.net_patterns.proofs.drawing.has_bit.Goals as goal

pub returns : goal.returns
unfolding bit_in
returns c = ap (λ n. n == 1) (shr_and_one c.args.word c.args.number)
