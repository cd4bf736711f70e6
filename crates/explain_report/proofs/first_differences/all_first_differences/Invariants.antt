use Rattle.std.proofs.Common.{◌<◌, length, take}
use Rattle.std.specs.Prelude.{All, zip}
use Rattle.explain_report.specs.Causing.{AreFirstDifferences}
use Rattle.explain_report.proofs.first_differences.all_first_differences.Given as goal

-- those so far
abbrev pub invariant-loop-place : goal.invariant-loop-place
invariant-loop-place g l =
    AreFirstDifferences l.task.first.now l.task.second.now l.naming (take l.place (zip l.pairs l.verdicts)) l.all.items × All (λ one. one.inner.first < length l.task.first.now.names) l.all.items
