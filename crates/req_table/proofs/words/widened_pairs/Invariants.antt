use Rattle.std.proofs.Common.{◌≡◌, take}
use Rattle.req_table.proofs.words.widened_pairs.Given as goal

abbrev pub invariant-loop-pair : goal.invariant-loop-pair
invariant-loop-pair l = l.long.items ≡ take l.pair-index l.short.items
