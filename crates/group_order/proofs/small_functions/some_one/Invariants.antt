use Rattle.std.proofs.Common.{◌≡◌, drop}
use Rattle.std.specs.Prelude.{◌||◌}
use Rattle.net_bench.specs.Labels.{some_one}
use Rattle.group_order.specs.SmallFunctions.{operand_values}
use Rattle.group_order.proofs.small_functions.some_one.Given as goal

abbrev pub invariant-loop-operand : goal.invariant-loop-operand
invariant-loop-operand l =
    (l.some || some_one (operand_values l.smalls l.values.first l.values.low l.values.high (drop l.operand-index l.operands))) ≡
    some_one (operand_values l.smalls l.values.first l.values.low l.values.high l.operands)
