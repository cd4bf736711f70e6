use Rattle.std.proofs.Common.{◌≡◌, take}
use Rattle.req_table.proofs.table.widened.Given as goal

abbrev pub invariant-loop-key : goal.invariant-loop-key
invariant-loop-key l = l.long.keys ≡ take l.key-index l.short.keys
