use Rattle.net_cone.proofs.Closed.{in_cone, input_in_cone}
use Rattle.net_cone.proofs.laws.complete.Goals as goal

pub returns-clause-signals : goal.returns-clause-signals
returns-clause-signals c = in_cone

pub returns-clause-inputs : goal.returns-clause-inputs
returns-clause-inputs c = input_in_cone
