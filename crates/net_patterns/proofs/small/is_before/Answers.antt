use Rattle.std.proofs.Common.{◌<◌, false, get_or, length, arith}
use Rattle.net_patterns.proofs.Ordering.{before_at, other_false}
use Rattle.net_patterns.proofs.small.is_before.Goals as goal

pub returns-then-one-level : goal.returns-then-one-level
returns-then-one-level c = λ later.
    let low : c.loop-level.level < length c.args.two.now = omega arith in
    before_at c.args.one.now c.args.two.now c.loop-level.level (omega arith) low c.loop-level.invariant (other_false (get_or c.args.one.now c.loop-level.level false) (get_or c.args.two.now c.loop-level.level false) c.if-one-level.true later) later
