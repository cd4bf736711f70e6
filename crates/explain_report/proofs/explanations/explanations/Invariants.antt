use Rattle.std.proofs.Common.{take}
use Rattle.explain_report.specs.Explaining.{AreExplained}
use Rattle.explain_report.proofs.explanations.explanations.Given as goal

-- the explanations so far
abbrev pub invariant-loop-place : goal.invariant-loop-place
invariant-loop-place g l = AreExplained l.task.first.now l.task.second.now l.naming l.verdicts (take l.place l.targets) l.text.items
