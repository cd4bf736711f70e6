use Rattle.std.proofs.Common.{◌≡◌, ℕ, ◌<◌, length, false, slice_index_or, take}
use Rattle.net_order.specs.Order.{is_member}
use Rattle.net_order.proofs.correspondence.membership_of.Given as goal

abbrev pub invariant-loop-signal : goal.invariant-loop-signal
invariant-loop-signal l = record {
  len : length l.seen.items ≡ l.count;
  seen : (s : ℕ) → s < l.count → slice_index_or l.seen.items s false ≡ is_member s (take l.signal-index l.signals);
}
