use Rattle.std.proofs.Common.{◌≡◌, drop, map, []}
use Rattle.std.specs.Prelude.{slice_index_or}
use Rattle.net_order.specs.Tables.{with_names}
use Rattle.net_order.proofs.interleave.add_variables.Given as goal

abbrev pub invariant-loop-variable : goal.invariant-loop-variable
invariant-loop-variable l = with_names l.table (map (λ v. slice_index_or l.variables v []) (drop l.variable-index l.order)) ≡ with_names l.fn.table (map (λ v. slice_index_or l.variables v []) l.order)
