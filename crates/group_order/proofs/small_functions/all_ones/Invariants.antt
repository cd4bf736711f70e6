use Rattle.std.proofs.Common.{◌≡◌, drop}
use Rattle.std.specs.Prelude.{◌&&◌}
use Rattle.net_bench.specs.Labels.{all_ones}
use Rattle.group_order.specs.SmallFunctions.{operand_values}
use Rattle.group_order.proofs.small_functions.all_ones.Given as goal

abbrev pub invariant-loop-operand : goal.invariant-loop-operand
invariant-loop-operand l =
    (l.all && all_ones (operand_values l.smalls l.values.first l.values.low l.values.high (drop l.operand-index l.operands))) ≡
    all_ones (operand_values l.smalls l.values.first l.values.low l.values.high l.operands)
