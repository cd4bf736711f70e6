use Rattle.net_cone.proofs.Functions.{same_function}
use Rattle.net_cone.proofs.laws.functions.Goals as goal

pub returns : goal.returns
returns c = same_function
