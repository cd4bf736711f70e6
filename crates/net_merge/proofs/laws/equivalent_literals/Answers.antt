use Rattle.net_merge.proofs.SignalValues.{equivalent_functions}
use Rattle.net_merge.proofs.laws.equivalent_literals.Goals as goal

pub returns : goal.returns
returns c = equivalent_functions
