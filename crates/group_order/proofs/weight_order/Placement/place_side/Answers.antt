use Rattle.std.proofs.Common.{arith}
use Rattle.std.proofs.lemmas.Grind.{common_steps}
use Rattle.group_order.specs.WeightCones.{Placed}
use Rattle.group_order.proofs.Folding.{folded_none, folded_more}
use Rattle.group_order.proofs.weight_order.Placement.place_side.Goals as goal

pub loop-root-init : goal.loop-root-init
loop-root-init c = let none = folded_none {X = Placed} in grind (arith, common_steps, none)

pub loop-root-preserved : goal.loop-root-preserved
loop-root-preserved c = let more = folded_more {X = Placed} in grind (arith, common_steps, more)
