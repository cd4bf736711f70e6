use Rattle.std.proofs.Common.{◌≡◌, None}
use Rattle.std.specs.Prelude.{fold}
use Rattle.net_order.specs.Force.{numbers_below}
use Rattle.group_order.specs.FanOut.{wider_at}
use Rattle.group_order.proofs.fan_out.widest_gap.Given as goal

abbrev pub invariant-loop-place : goal.invariant-loop-place
invariant-loop-place l = l.best ≡ fold (wider_at l.falling) None (numbers_below l.place)
