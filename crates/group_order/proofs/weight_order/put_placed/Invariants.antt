use Rattle.std.proofs.Common.{◌≡◌, drop}
use Rattle.std.specs.Prelude.{fold}
use Rattle.group_order.specs.WeightCones.{with_placed}
use Rattle.group_order.proofs.weight_order.put_placed.Given as goal

abbrev pub invariant-loop-variable : goal.invariant-loop-variable
invariant-loop-variable l = fold with_placed l.placed.items (drop l.variable-index l.variables) ≡ fold with_placed l.initial.placed.items l.variables
