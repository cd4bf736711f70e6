use Rattle.std.proofs.Common.{◌≡◌, drop}
use Rattle.net_bench.specs.Circuit.{circuit}
use Rattle.net_order.specs.Order.{names_of}
use Rattle.net_order.specs.Tables.{with_names}
use Rattle.net_rename.proofs.ports.add_names.Given as goal

-- what is still to be put completes the table
abbrev pub invariant-loop-signal : goal.invariant-loop-signal
invariant-loop-signal l = with_names l.table (names_of (circuit l.net) (drop l.signal-index l.signals)) ≡ with_names l.initial.table (names_of (circuit l.net) l.signals)
