use Rattle.std.proofs.Common.{◌≤◌}
use Rattle.check_report.proofs.merging.count_equal.Given as goal

abbrev pub invariant-loop-place : goal.invariant-loop-place
invariant-loop-place l = l.count ≤ l.place
