use Rattle.std.proofs.Common.{◌≡◌, [], replicate}
use Rattle.req_table.proofs.children.empty_rows.Given as goal

abbrev pub invariant-loop-made : goal.invariant-loop-made
invariant-loop-made l = l.rows.items ≡ replicate l.made []
