use Rattle.gate_plan.proofs.OneBound.{past_or_within}
use Rattle.gate_plan.proofs.laws.past_or_within.Goals as goal

pub returns : goal.returns
returns c = past_or_within
