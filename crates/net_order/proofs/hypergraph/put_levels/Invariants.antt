use Rattle.std.proofs.Common.{◌≡◌, drop}
use Rattle.std.specs.Prelude.{fold, slice_set}
use Rattle.net_bench.specs.Circuit.{variables_of}
use Rattle.net_order.specs.Order.{level_of, named}
use Rattle.net_order.proofs.hypergraph.put_levels.Given as goal

abbrev pub invariant-loop-variable : goal.invariant-loop-variable
invariant-loop-variable l =
    fold (λ t s. slice_set t s (level_of l.names (named l.side s))) l.table.items (drop l.variable-index l.variable-items) ≡
    fold (λ t s. slice_set t s (level_of l.names (named l.side s))) l.initial.table.items (variables_of l.side.net)
