use Rattle.std.proofs.Common.{◌≡◌, ◌%◌, ◌^◌, List, length, take}
use Rattle.std.specs.List.{sum_by}
use Rattle.req_table.specs.declared.packed_child.PackedChild.{PackedChild}
use Rattle.expand_work.proofs.parts.Parts.count.Given as goal

abbrev pub invariant-loop-rows : goal.invariant-loop-rows
invariant-loop-rows l = l.total ≡ sum_by (λ (levels : List (List (PackedChild × PackedChild))). sum_by (λ (row : List (PackedChild × PackedChild)). length row) levels) (take l.rows-index l.rows-items) % 2 ^ 64
