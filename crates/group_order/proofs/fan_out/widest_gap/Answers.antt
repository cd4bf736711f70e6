use Rattle.std.proofs.Common.{Option, arith}
use Rattle.std.proofs.lemmas.Grind.{common_steps}
use Rattle.group_order.specs.declared.fan_out.Gap.{Gap}
use Rattle.group_order.proofs.Folding.{folded_none, folded_more}
use Rattle.group_order.proofs.fan_out.widest_gap.Goals as goal

pub loop-place-init : goal.loop-place-init
loop-place-init c = let none = folded_none {X = Option Gap} in grind (arith, common_steps, none)

pub loop-place-preserved : goal.loop-place-preserved
loop-place-preserved c = let more = folded_more {X = Option Gap} in grind (arith, common_steps, more)
