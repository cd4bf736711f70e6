use Rattle.std.proofs.Common.{◌≡◌, [], drop}
use Rattle.std.specs.Prelude.{fold}
use Rattle.group_order.specs.SmallFunctions.{with_pairs_on}
use Rattle.group_order.proofs.small_functions.xor_pairs.Given as goal

abbrev pub invariant-loop-i : goal.invariant-loop-i
invariant-loop-i l = fold with_pairs_on l.pairs.items (drop l.i l.sides) ≡ fold with_pairs_on [] l.sides
