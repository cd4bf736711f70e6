use Rattle.std.proofs.Common.{◌≡◌, map, take}
use Rattle.dd_store.specs.Narrow.{pair_at}
use Rattle.dd_store.proofs.pairs.widened.Given as goal

abbrev pub invariant-loop-words : goal.invariant-loop-words
invariant-loop-words l = l.wide ≡ map pair_at (take l.words-index l.table)
