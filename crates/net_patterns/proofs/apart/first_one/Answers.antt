use Rattle.std.proofs.Common.{◌<◌, ◌^◌, arith}
use Rattle.net_patterns.proofs.Firsts.{lowest_one, no_one}
use Rattle.net_patterns.proofs.apart.first_one.Goals as goal

pub returns-then-word-eq0 : goal.returns-then-word-eq0
returns-then-word-eq0 c = no_one c.args.word c.if-word-eq0.true

pub returns-else-word-eq0 : goal.returns-else-word-eq0
returns-else-word-eq0 c =
    let some : 0 < c.args.word = omega arith in
    let fits : c.args.word < 2 ^ 64 = omega (arith, c.ranges.word.fits) in
    lowest_one c.args.word some fits
