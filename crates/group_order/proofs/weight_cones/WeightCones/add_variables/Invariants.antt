use Rattle.std.proofs.Common.{◌≡◌, None}
use Rattle.std.specs.Prelude.{fold, length, slice_index_or}
use Rattle.net_order.specs.Force.{numbers_below}
use Rattle.group_order.specs.WeightCones.{signals_by_variable, with_variable}
use Rattle.group_order.proofs.weight_cones.WeightCones.add_variables.Given as goal

abbrev pub invariant-loop-variable : goal.invariant-loop-variable
invariant-loop-variable l =
    l.self ≡ fold (λ d v. with_variable l.placed d v (slice_index_or (signals_by_variable (length l.placed) l.side) v None)) l.fn.self (numbers_below l.variable)
