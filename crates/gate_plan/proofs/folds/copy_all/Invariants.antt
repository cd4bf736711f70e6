use Rattle.std.proofs.Common.{◌≡◌, length, drop}
use Rattle.gate_plan.specs.Building.{copied_all}
use Rattle.gate_plan.proofs.folds.copy_all.Given as goal

abbrev pub invariant-loop-copied : goal.invariant-loop-copied
invariant-loop-copied l = record {
  each : length l.references.items ≡ length l.fn.references.items;
  rest : copied_all l.references.items (drop l.copied-index l.copies) ≡ copied_all l.fn.references.items l.copies;
}
