use Rattle.std.proofs.Common.{◌≡◌, take}
use Rattle.req_table.proofs.words.widened.Given as goal

abbrev pub invariant-loop-word : goal.invariant-loop-word
invariant-loop-word l = l.long.items ≡ take l.word-index l.short.items
