use Rattle.std.proofs.Common.{◌≡◌, take}
use Rattle.std.specs.Prelude.{filter}
use Rattle.net_bench.specs.Circuit.{circuit}
use Rattle.compare_built.specs.PairSelection.{is_one_of}
use Rattle.pair_facts.proofs.pair_selection.named_signals.Given as goal

abbrev pub invariant-loop-place : goal.invariant-loop-place
invariant-loop-place l = l.picked.items ≡ filter (is_one_of (circuit l.net) l.patterns l.kind) (take l.place l.signals)
