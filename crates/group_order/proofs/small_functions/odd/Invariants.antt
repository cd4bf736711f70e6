use Rattle.std.proofs.Common.{◌≡◌, cond, drop}
use Rattle.std.specs.Prelude.{not}
use Rattle.net_bench.specs.Labels.{odd}
use Rattle.group_order.specs.SmallFunctions.{operand_values}
use Rattle.group_order.proofs.small_functions.odd.Given as goal

abbrev pub invariant-loop-operand : goal.invariant-loop-operand
invariant-loop-operand l =
    let rest = odd (operand_values l.smalls l.values.first l.values.low l.values.high (drop l.operand-index l.operands)) in
    cond l.odd (not rest) rest ≡ odd (operand_values l.smalls l.values.first l.values.low l.values.high l.operands)
