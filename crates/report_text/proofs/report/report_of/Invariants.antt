use Rattle.std.proofs.Common.{◌≡◌, ◌++◌, drop}
use Rattle.report_text.specs.Lines.{lines_text}
use Rattle.report_text.proofs.report.report_of.Given as goal

-- what is still to be added completes the lines
abbrev pub invariant-loop-verdict : goal.invariant-loop-verdict
invariant-loop-verdict l = l.text.items ++ lines_text l.which l.variables (drop l.verdict-index l.verdicts) ≡ lines_text l.which l.variables l.verdicts
