use Rattle.compare_built.proofs.Restricting.{all_equal, all_least, all_whole}
use Rattle.check_report.proofs.laws.without_condition.Goals as goal

pub returns : goal.returns
returns c = record { equal = all_equal; least = all_least; unrestricted = all_whole }
