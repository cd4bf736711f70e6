use Rattle.std.proofs.Common.{◌≡◌, drop}
use Rattle.std.specs.Prelude.{find}
use Rattle.explain_report.specs.Explaining.{is_verdict_on}
use Rattle.explain_report.proofs.explanations.explained_pair.Given as goal

-- none of those before is about what is asked for
abbrev pub invariant-loop-place : goal.invariant-loop-place
invariant-loop-place g l = find (is_verdict_on l.target) (drop l.place l.verdicts) ≡ find (is_verdict_on l.target) l.verdicts
