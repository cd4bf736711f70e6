use Rattle.net_explain.proofs.Identifiers.{one_code}
use Rattle.net_explain.proofs.laws.identifiers.Goals as goal

pub returns : goal.returns
returns c = one_code
