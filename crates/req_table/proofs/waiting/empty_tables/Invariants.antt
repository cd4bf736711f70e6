use Rattle.std.proofs.Common.{◌≡◌, [], replicate}
use Rattle.req_table.proofs.waiting.empty_tables.Given as goal

abbrev pub invariant-loop-made : goal.invariant-loop-made
invariant-loop-made l = l.tables.items ≡ replicate l.made []
