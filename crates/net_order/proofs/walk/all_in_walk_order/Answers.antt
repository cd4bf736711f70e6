use Rattle.std.proofs.Common.{map, ap, ◌∙◌}
use Rattle.net_bench.specs.Circuit.{circuit}
use Rattle.net_order.specs.Order.{in_walk_order}
use Rattle.net_order.proofs.Walks.{low_operands, lists_more}
use Rattle.net_order.proofs.walk.all_in_walk_order.Goals as goal

pub in_walk_order-requires : goal.in_walk_order-requires
in_walk_order-requires c =
    low_operands c.args.net.now c.gates-gates.ensures.sound c.gates-gates.result.now c.loop-gate.gate-index c.gate-item.result c.as_slice.result.now
    c.gates-gates.ensures.value c.loop-gate-test.true c.gate-item.is c.as_slice.ensures

pub loop-gate-preserved : goal.loop-gate-preserved
loop-gate-preserved c =
    lists_more (λ g. in_walk_order c.args.operand_order (circuit c.args.net.now) g.operands) c.gates-gates.result.now c.loop-gate.gate-index c.gate-item.result (map (λ k. k.items) c.loop-gate.steps.items) (map (λ k. k.items) c.push_list.new.lists.items)
    c.in_ok-list.list.items c.loop-gate-test.true c.gate-item.is (c.in_ok-list.ensures ∙ ap (in_walk_order c.args.operand_order (circuit c.args.net.now)) c.as_slice.ensures) c.in_ok-push_list.ensures c.loop-gate.invariant
