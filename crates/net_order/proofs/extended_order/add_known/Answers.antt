use Rattle.std.proofs.Common.{◌∙◌, ◌<◌, arith, length}
use Rattle.net_order.proofs.Unfitting.{one_known}
use Rattle.net_order.proofs.extended_order.add_known.Goals as goal

pub loop-i-preserved : goal.loop-i-preserved
loop-i-preserved c =
    let low : c.loop-i.i < length c.args.list.now = omega (arith, c.loop-i-test.true) in
    one_known c.args.variables.now c.args.list.now c.loop-i.table c.add_if_known.new.table c.loop-i.i c.at.result.now c.at.ensures low c.in_ok-add_if_known.ensures ∙ c.loop-i.invariant
