use Rattle.std.proofs.Common.{◌≡◌, ◌∙◌, ap}
use Rattle.net_bench.specs.Circuit.{circuit}
use Rattle.cone_check.specs.JudgingOrder.{unshown_first}
use Rattle.cone_check.proofs.JudgingOrder.{each_place}
use Rattle.cone_check.proofs.judging_order.judging_order.Goals as goal

pub returns-clause-places : goal.returns-clause-places
returns-clause-places g c =
    let task = c.args.context.now.task.now in
    let flags = c.args.flags.now in
    let weighed = c.in_ok-weighed.weighed.items in
    let split : c.in_ok-order.order.items ≡ unshown_first flags weighed = c.in_ok-order.ensures ∙ ap (unshown_first flags) c.as_slice.ensures.value in
    each_place (circuit task.first.now) (circuit task.second.now) c.args.subjects.now flags weighed c.in_ok-order.order.items c.in_ok-weighed.ensures split
