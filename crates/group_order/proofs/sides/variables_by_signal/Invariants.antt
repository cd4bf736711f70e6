use Rattle.std.proofs.Common.{◌≡◌, Some, drop}
use Rattle.std.specs.Prelude.{fold, slice_set}
use Rattle.net_bench.specs.Circuit.{circuit, variables_of}
use Rattle.net_order.specs.Order.{level_in}
use Rattle.group_order.proofs.sides.variables_by_signal.Given as goal

abbrev pub invariant-loop-variable : goal.invariant-loop-variable
invariant-loop-variable l =
    fold (λ t s. slice_set t s (Some (level_in l.naming l.kind s))) l.table.items (drop l.variable-index l.variable-items) ≡
    fold (λ t s. slice_set t s (Some (level_in l.naming l.kind s))) l.initial.table.items (variables_of (circuit l.net))
