use Rattle.std.proofs.Common.{ℕ, ◌<◌, get_or}
use Rattle.net_bench.specs.Circuit.{circuit}
use Rattle.compare_built.specs.PairSelection.{HasPicked}
use Rattle.pair_facts.proofs.Picked.{no_pattern}
use Rattle.pair_facts.proofs.pair_selection.are_known.Given as goal

abbrev pub invariant-loop-pattern : goal.invariant-loop-pattern
invariant-loop-pattern l = (k : ℕ) → k < l.pattern-index → HasPicked (circuit l.net) (get_or l.patterns k no_pattern)
