use Rattle.std.proofs.Common.{◌≡◌}
use Rattle.net_order.specs.Force.{numbers_below}
use Rattle.net_order.proofs.tables.numbers_below.Given as goal

abbrev pub invariant-loop-number : goal.invariant-loop-number
invariant-loop-number l = l.numbers.items ≡ numbers_below l.number
