use Rattle.std.proofs.Common.{◌≡◌, ◌++◌, map, drop}
use Rattle.net_bench.specs.Circuit.{circuit}
use Rattle.compare_built.specs.Report.{next_subject}
use Rattle.compare_built.proofs.compared_pairs.add_next_states.Given as goal

abbrev pub invariant-loop-i : goal.invariant-loop-i
invariant-loop-i l =
    l.subjects.items ++ map (next_subject (circuit l.one) (circuit l.two)) (drop l.i l.pairs)
    ≡ l.fn.subjects.items ++ map (next_subject (circuit l.one) (circuit l.two)) l.pairs
