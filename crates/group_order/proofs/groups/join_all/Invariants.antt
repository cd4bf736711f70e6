use Rattle.std.proofs.Common.{◌≡◌, drop}
use Rattle.std.specs.Prelude.{fold}
use Rattle.group_order.specs.Groups.{joined}
use Rattle.group_order.proofs.groups.join_all.Given as goal

abbrev pub invariant-loop-pair : goal.invariant-loop-pair
invariant-loop-pair l = fold joined l.labels.items (drop l.pair-index l.pairs) ≡ fold joined l.initial.labels.items l.pairs
