use Rattle.std.proofs.Common.{◌≡◌, ◌++◌, map, drop}
use Rattle.compare_built.specs.Report.{output_subject}
use Rattle.compare_built.proofs.compared_pairs.add_outputs.Given as goal

abbrev pub invariant-loop-i : goal.invariant-loop-i
invariant-loop-i l = l.subjects.items ++ map output_subject (drop l.i l.pairs) ≡ l.fn.subjects.items ++ map output_subject l.pairs
