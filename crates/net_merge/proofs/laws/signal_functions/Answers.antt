use Rattle.net_merge.proofs.SignalValues.{functions}
use Rattle.net_merge.proofs.laws.signal_functions.Goals as goal

pub returns : goal.returns
returns c = functions
