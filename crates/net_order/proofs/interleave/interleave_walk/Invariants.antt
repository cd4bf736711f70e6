use Rattle.std.proofs.Common.{◌≡◌, length, drop, map}
use Rattle.std.specs.Prelude.{None, slice_index}
use Rattle.net_order.specs.Order.{interleave_walk}
use Rattle.net_order.specs.Tables.{AreMembershipFlags}
use Rattle.net_order.proofs.interleave.interleave_walk.Given as goal

abbrev pub invariant-loop-signal : goal.invariant-loop-signal
invariant-loop-signal l = record {
  visited : AreMembershipFlags l.seen.items l.order.items;
  len : length l.seen.items ≡ length l.fn.seen.items;
  rest : interleave_walk l.order.items l.last (map (slice_index l.variables) (drop l.signal-index l.met)) ≡ interleave_walk l.fn.order.items None (map (slice_index l.variables) l.met);
}
