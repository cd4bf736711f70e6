use Rattle.std.proofs.Common.{subst, arith}
use Rattle.reduce_up.specs.Steps.{IsTaskRead}
use Rattle.reduce_up.proofs.reads.read_all.Goals as goal

pub returns : goal.returns
returns g c = λ k d lt.
    let same = c.fork_if_much.auto.s in
    let at = (c.fork_if_much.ensures k d (omega (arith, lt, same))).1 in
    subst (IsTaskRead c.args.level.now k) at.left at.call
