use Rattle.std.proofs.Common.{◌≡◌, ◌%◌, ◌^◌, List, length, take}
use Rattle.std.specs.List.{sum_by}
use Rattle.req_table.specs.declared.packed_child.PackedChild.{PackedChild}
use Rattle.req_table.proofs.children.Rows.count.Given as goal

abbrev pub invariant-loop-row : goal.invariant-loop-row
invariant-loop-row l = l.total ≡ sum_by (λ (r : List (PackedChild × PackedChild)). length r) (take l.row-index l.row-items) % 2 ^ 64
