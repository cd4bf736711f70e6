use Rattle.check_report.proofs.Excluding.{one_of_both}
use Rattle.check_report.proofs.laws.limits.Goals as goal

pub returns : goal.returns
returns c = one_of_both
