use Rattle.std.proofs.Common.{◌≡◌, ◌++◌, drop}
use Rattle.net_order.specs.Order.{unmatched}
use Rattle.net_order.proofs.correspondence.without_partner.Given as goal

abbrev pub invariant-loop-i : goal.invariant-loop-i
invariant-loop-i l =
    l.without_partner.items ++ unmatched l.ours.net l.theirs.net l.theirs.signals (drop l.i l.signals) ≡ unmatched l.ours.net l.theirs.net l.theirs.signals l.signals
