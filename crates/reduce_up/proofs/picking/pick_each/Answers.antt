use Rattle.std.proofs.Common.{subst, arith}
use Rattle.reduce_up.specs.Steps.{IsTaskPicked}
use Rattle.reduce_up.proofs.picking.pick_each.Goals as goal

pub returns : goal.returns
returns g c = λ k d lt.
    let same = c.fork_if_much.auto.s in
    let at = (c.fork_if_much.ensures k d (omega (arith, lt, same))).1 in
    subst (IsTaskPicked c.args.parts.now c.args.origins.now c.args.refs.now k) at.left at.call
