use Rattle.std.proofs.Common.{rules, ap}
use Rattle.dd_store.specs.Graph.{Pair}
use Rattle.dd_store.proofs.Narrowing.{no_word}
use Rattle.dd_store.proofs.pairs.words.Goals as goal
use Rattle.dd_store.proofs.pairs.words.Goals.{else-low-lt-FOUR_BYTES-via-then-low-lt-FOUR_BYTES+else-high-lt-FOUR_BYTES, else-low-lt-FOUR_BYTES-via-else-low-lt-FOUR_BYTES}

pub returns : goal.returns
returns c = elim c.else-low-lt-FOUR_BYTES.branch [
  | else-low-lt-FOUR_BYTES-via-then-low-lt-FOUR_BYTES+else-high-lt-FOUR_BYTES w ↦ λ m k e.
      no_word c.word-high.result c.args.pair.1 c.word-high.ensures.word (search rules) m.1 k.1 (ap (λ (p : Pair). p.1) e)
  | else-low-lt-FOUR_BYTES-via-else-low-lt-FOUR_BYTES w ↦ λ m k e.
      no_word c.word-low.result c.args.pair.0 c.word-low.ensures.word (search rules) m.0 k.0 (ap (λ (p : Pair). p.0) e)
]
