use Rattle.std.proofs.Common.{◌≡◌, ◌++◌, drop}
use Rattle.net_order.specs.Order.{pairs_by_name}
use Rattle.net_order.proofs.correspondence.pairs_of.Given as goal

abbrev pub invariant-loop-i : goal.invariant-loop-i
invariant-loop-i l =
    l.pairs.items ++ pairs_by_name l.ours.net l.theirs.net l.theirs.signals (drop l.i l.signals) ≡ pairs_by_name l.ours.net l.theirs.net l.theirs.signals l.signals
