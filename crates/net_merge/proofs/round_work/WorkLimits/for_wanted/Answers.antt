use Rattle.std.proofs.Common.{arith}
use Rattle.net_merge.proofs.round_work.WorkLimits.for_wanted.Goals as goal

pub returns-clause-least : goal.returns-clause-least
returns-clause-least c = λ work fits all vain.
    let reached = c.in_vain.ensures.least work fits vain in
    omega (arith, fits, all, reached, c.min.ensures, c.saturating_add.ensures, c.saturating_mul-most.ensures)
