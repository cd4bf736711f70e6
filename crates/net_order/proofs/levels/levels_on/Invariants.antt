use Rattle.std.proofs.Common.{◌≡◌, ℕ, ◌<◌, length, get_or}
use Rattle.net_order.specs.Order.{level_of, named}
use Rattle.net_order.proofs.levels.levels_on.Given as goal

abbrev pub invariant-loop-variable : goal.invariant-loop-variable
invariant-loop-variable l = record {
  len : length l.list.items ≡ length l.side.net.names;
  each : (k : ℕ) → k < l.variable-index → get_or l.list.items (get_or l.variable-items k 0) 0 ≡ level_of l.table (named l.side (get_or l.variable-items k 0));
}
