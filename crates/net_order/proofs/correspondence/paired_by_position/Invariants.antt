use Rattle.std.proofs.Common.{◌≡◌, ◌++◌, drop}
use Rattle.std.specs.Prelude.{zip}
use Rattle.net_order.proofs.correspondence.paired_by_position.Given as goal

abbrev pub invariant-loop-i : goal.invariant-loop-i
invariant-loop-i l = l.pairs.items ++ zip (drop l.i l.left) (drop l.i l.right) ≡ zip l.left l.right
