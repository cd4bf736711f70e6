use Rattle.std.proofs.Common.{◌≡◌, map, length}
use Rattle.std.specs.Prelude.{slice_index}
use Rattle.net_bench.specs.Circuit.{greatest}
use Rattle.net_bench.specs.Heights.{larger}
use Rattle.net_bench.proofs.walk.greatest_height.Given as goal

abbrev pub invariant-loop-signal : goal.invariant-loop-signal
invariant-loop-signal l = larger l.most (greatest (map (slice_index l.heights) l.rest)) ≡ greatest (map (slice_index l.heights) l.signals)

abbrev pub decreases-loop-signal : goal.decreases-loop-signal
decreases-loop-signal l = length l.rest
