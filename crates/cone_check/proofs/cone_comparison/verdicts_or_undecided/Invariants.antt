use Rattle.std.proofs.Common.{◌≡◌, ◌+◌, ◌++◌, drop, length}
use Rattle.net_bench.specs.Circuit.{circuit}
use Rattle.cone_check.specs.ConeRounds.{all_or_undecided}
use Rattle.cone_check.proofs.cone_comparison.verdicts_or_undecided.Given as goal

abbrev pub invariant-loop-one : goal.invariant-loop-one
invariant-loop-one l = record {
  places : l.place + length l.one-iterator.rest.items ≡ length l.subjects;
  verdicts : l.all.items ++ all_or_undecided (circuit l.first) (drop l.place l.subjects) l.one-iterator.rest.items ≡ all_or_undecided (circuit l.first) l.subjects l.fn.known.items;
}
