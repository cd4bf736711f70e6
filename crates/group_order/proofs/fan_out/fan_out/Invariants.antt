use Rattle.std.proofs.Common.{◌≡◌, drop}
use Rattle.std.specs.Prelude.{fold}
use Rattle.group_order.specs.FanOut.{greater_of, uses_on}
use Rattle.group_order.proofs.fan_out.fan_out.Given as goal

abbrev pub invariant-loop-i : goal.invariant-loop-i
invariant-loop-i l =
    fold (λ most side. greater_of l.count most (uses_on l.count side)) l.most.items (drop l.i l.sides) ≡
    fold (λ most side. greater_of l.count most (uses_on l.count side)) l.initial.most.items l.sides
