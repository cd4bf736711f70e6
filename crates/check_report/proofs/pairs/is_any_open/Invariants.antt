use Rattle.std.proofs.Common.{◌≡◌, take, false}
use Rattle.std.specs.List.{list_any}
use Rattle.explain_report.specs.Deciding.{is_open}
use Rattle.check_report.proofs.pairs.is_any_open.Given as goal

abbrev pub invariant-loop-verdict : goal.invariant-loop-verdict
invariant-loop-verdict l = list_any (is_open l.difference) (take l.verdict-index l.verdicts) ≡ false
