use Rattle.std.proofs.Common.{map}
use Rattle.gate_plan.proofs.Planning.{AddsSome}
use Rattle.gate_plan.proofs.steps.add_steps.Given as goal

abbrev pub invariant-loop-fold : goal.invariant-loop-fold
invariant-loop-fold l = AddsSome (map (λ row. row.items) l.fn.folds.items) l.gate l.fold (map (λ row. row.items) l.folds.items)
