use Rattle.std.proofs.Common.{◌≡◌, None, drop}
use Rattle.std.specs.Prelude.{fold, slice_index_or, slice_set}
use Rattle.group_order.specs.FreeForce.{vertex_of}
use Rattle.group_order.proofs.free_force.put_variables.Given as goal

abbrev pub invariant-loop-variable : goal.invariant-loop-variable
invariant-loop-variable l =
    fold (λ t s. slice_set t s (vertex_of l.places (slice_index_or l.side.variables s None))) l.table.items (drop l.variable-index l.variables) ≡
    fold (λ t s. slice_set t s (vertex_of l.places (slice_index_or l.side.variables s None))) l.initial.table.items l.variables
