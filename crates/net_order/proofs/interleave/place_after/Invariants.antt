use Rattle.net_order.proofs.Interleaving.{Behind}
use Rattle.net_order.proofs.interleave.place_after.Given as goal

abbrev pub invariant-loop-i : goal.invariant-loop-i
invariant-loop-i l = Behind l.last l.order l.i
