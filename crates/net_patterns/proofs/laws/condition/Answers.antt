use Rattle.net_patterns.proofs.Differing.{condition_holds}
use Rattle.net_patterns.proofs.laws.condition.Goals as goal

pub returns : goal.returns
returns c = λ a b n sound. condition_holds n sound a b
