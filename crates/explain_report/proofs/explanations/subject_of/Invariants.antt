use Rattle.std.proofs.Common.{◌≡◌, drop}
use Rattle.std.specs.Prelude.{find}
use Rattle.net_bench.specs.Circuit.{circuit}
use Rattle.explain_report.specs.Explaining.{is_subject_of}
use Rattle.explain_report.proofs.explanations.subject_of.Given as goal

-- none of those before is the pair that is asked for
abbrev pub invariant-loop-place : goal.invariant-loop-place
invariant-loop-place l = find (is_subject_of (circuit l.net) l.target) (drop l.place l.subjects) ≡ find (is_subject_of (circuit l.net) l.target) l.subjects
