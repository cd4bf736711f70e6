use Rattle.std.proofs.Common.{◌≡◌, ℕ, ◌<◌, ◌≤◌, length, get_or, drop}
use Rattle.net_order.specs.Order.{partner}
use Rattle.net_order.proofs.side.partner_table.Given as goal

abbrev pub invariant-loop-i : goal.invariant-loop-i
invariant-loop-i l = record {
  within : l.i ≤ length l.from;
  len : length l.table.items ≡ l.count;
  each : (s : ℕ) → s < l.count → get_or l.table.items s 0 ≡ partner (drop l.i l.from) (drop l.i l.to) s;
}

abbrev pub decreases-loop-i : goal.decreases-loop-i
decreases-loop-i l = l.i
