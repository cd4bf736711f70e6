use Rattle.compare_built.proofs.Determined.{one_report}
use Rattle.check_report.proofs.laws.one_report.Goals as goal

pub returns : goal.returns
returns c = one_report
