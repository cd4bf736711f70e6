use Rattle.std.proofs.Common.{◌≡◌, drop}
use Rattle.explain_report.specs.Dumping.{first_difference_at}
use Rattle.explain_report.proofs.vcd_dump.first_difference_at.Given as goal

-- none of those before has an assignment
abbrev pub invariant-loop-place : goal.invariant-loop-place
invariant-loop-place l = first_difference_at (drop l.place l.verdicts) ≡ first_difference_at l.verdicts
