use Rattle.std.proofs.Common.{arith}
use Rattle.std.proofs.lemmas.Grind.{common_steps}
use Rattle.net_order.proofs.Forcing.{mapped_none, mapped_more}
use Rattle.group_order.proofs.fan_out.greater_of.Goals as goal

pub loop-place-init : goal.loop-place-init
loop-place-init c = let none = mapped_none in grind (arith, common_steps, none)

pub loop-place-preserved : goal.loop-place-preserved
loop-place-preserved c = let more = mapped_more in grind (arith, common_steps, more)
