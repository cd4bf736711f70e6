use Rattle.std.proofs.Common.{◌≡◌, drop}
use Rattle.std.specs.Prelude.{fold, slice_set}
use Rattle.net_order.specs.Force.{last_below}
use Rattle.net_order.proofs.force_start.last_variables.Given as goal

abbrev pub invariant-loop-vertex : goal.invariant-loop-vertex
invariant-loop-vertex l =
    fold (λ t v. slice_set t v (last_below l.variables l.edges t v)) l.table.items (drop l.vertex-index l.by_rank) ≡ fold (λ t v. slice_set t v (last_below l.variables l.edges t v)) l.initial.table.items l.by_rank
