use Rattle.std.proofs.Common.{◌≡◌, length, drop}
use Rattle.gate_plan.specs.Building.{answered_all}
use Rattle.gate_plan.proofs.folds.take_answers.Given as goal

abbrev pub invariant-loop-i : goal.invariant-loop-i
invariant-loop-i l = record {
  each : length l.references.items ≡ length l.fn.references.items;
  rest : answered_all l.references.items (drop l.i l.steps) (drop l.i l.answers) ≡ answered_all l.fn.references.items l.steps l.answers;
}
