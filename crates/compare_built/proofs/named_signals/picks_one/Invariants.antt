use Rattle.std.proofs.Common.{◌≡◌, false, take, map}
use Rattle.std.specs.List.{list_any}
use Rattle.net_bench.specs.Circuit.{circuit}
use Rattle.net_order.specs.Order.{name_of}
use Rattle.compare_built.specs.PairSelection.{is_picked_by}
use Rattle.compare_built.proofs.named_signals.picks_one.Given as goal

abbrev pub invariant-loop-signal : goal.invariant-loop-signal
invariant-loop-signal l = list_any (λ n. is_picked_by l.kind n l.pattern) (map (name_of (circuit l.net)) (take l.signal-index l.signals)) ≡ false
