use Rattle.std.proofs.Common.{arith}
use Rattle.std.proofs.lemmas.Grind.{common_steps}
use Rattle.group_order.specs.WeightCones.{Cones}
use Rattle.group_order.proofs.Folding.{folded_none, folded_more}
use Rattle.group_order.proofs.weight_cones.WeightCones.add_variables.Goals as goal

pub loop-variable-init : goal.loop-variable-init
loop-variable-init c = let none = folded_none {X = Cones} in grind (arith, common_steps, none)

pub loop-variable-preserved : goal.loop-variable-preserved
loop-variable-preserved c = let more = folded_more {X = Cones} in grind (arith, common_steps, more)
