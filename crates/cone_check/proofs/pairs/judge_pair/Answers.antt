use Rattle.std.proofs.Common.{inr}
use Rattle.cone_check.proofs.pairs.judge_pair.Goals as goal

pub returns-then-has_stopped : goal.returns-then-has_stopped
returns-then-has_stopped g c = inr (c.has_stopped.ensures.stops c.if-has_stopped.true)
