use Rattle.net_cone.proofs.Unique.{one_cone}
use Rattle.net_cone.proofs.laws.unique.Goals as goal

pub returns : goal.returns
returns c = one_cone
