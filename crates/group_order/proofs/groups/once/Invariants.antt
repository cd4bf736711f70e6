use Rattle.std.proofs.Common.{◌≡◌, ◌++◌, None, drop}
use Rattle.group_order.specs.Groups.{once}
use Rattle.group_order.proofs.groups.once.Given as goal

abbrev pub invariant-loop-pair : goal.invariant-loop-pair
invariant-loop-pair l = l.kept.items ++ once l.last (drop l.pair-index l.pairs) ≡ once None l.pairs
