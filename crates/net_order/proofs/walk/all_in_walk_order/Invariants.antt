use Rattle.std.proofs.Common.{◌≡◌, map, take}
use Rattle.net_bench.specs.Circuit.{circuit}
use Rattle.net_order.specs.Order.{in_walk_order}
use Rattle.net_order.proofs.walk.all_in_walk_order.Given as goal

abbrev pub invariant-loop-gate : goal.invariant-loop-gate
invariant-loop-gate l = map (λ k. k.items) l.steps.items ≡ map (λ g. in_walk_order l.operand_order (circuit l.net) g.operands) (take l.gate-index l.gates)
