use Rattle.std.proofs.Common.{◌≡◌, drop, length}
use Rattle.std.specs.Prelude.{fold}
use Rattle.net_order.specs.Order.{interleave_side, interleaved_numbers}
use Rattle.net_order.specs.Tables.{AreMembershipFlags}
use Rattle.net_order.proofs.interleave.interleaved_numbers.Given as goal

abbrev pub invariant-loop-i : goal.invariant-loop-i
invariant-loop-i l = record {
  visited : AreMembershipFlags l.seen.items l.order.items;
  len : length l.seen.items ≡ length l.variables;
  rest : fold (interleave_side l.variables) l.order.items (drop l.i l.sides) ≡ interleaved_numbers l.variables l.sides;
}
