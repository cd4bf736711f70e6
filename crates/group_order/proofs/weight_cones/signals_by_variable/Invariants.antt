use Rattle.std.proofs.Common.{◌≡◌, None, drop}
use Rattle.std.specs.Prelude.{fold, slice_index_or}
use Rattle.group_order.specs.WeightCones.{with_signal}
use Rattle.group_order.proofs.weight_cones.signals_by_variable.Given as goal

abbrev pub invariant-loop-signal : goal.invariant-loop-signal
invariant-loop-signal l =
    fold (λ t s. with_signal t s (slice_index_or l.side.variables s None)) l.table.items (drop l.signal-index l.variables) ≡
    fold (λ t s. with_signal t s (slice_index_or l.side.variables s None)) l.initial.table.items l.variables
