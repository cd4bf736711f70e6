use Rattle.net_cone.proofs.Spreading.{widened}
use Rattle.net_cone.proofs.laws.widened.Goals as goal

pub returns : goal.returns
returns c = widened
