use Rattle.std.proofs.Common.{◌≡◌, replicate}
use Rattle.gate_plan.specs.Plans.{no_steps}
use Rattle.gate_plan.proofs.steps.empty_ranks.Given as goal

abbrev pub invariant-loop : goal.invariant-loop
invariant-loop l = l.ranks.items ≡ replicate l.counter no_steps
