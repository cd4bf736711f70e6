use Rattle.net_patterns.proofs.Differing.{functions_differ}
use Rattle.net_patterns.proofs.laws.functions.Goals as goal

pub returns : goal.returns
returns c = functions_differ
