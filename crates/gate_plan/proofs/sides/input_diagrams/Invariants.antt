use Rattle.std.proofs.Common.{◌≡◌, ◌<◌, ℕ, List, length, get_or}
use Rattle.dd_store.specs.declared.reference.Ref.{Ref}
use Rattle.gate_plan.specs.Building.{PlannedNet, input_level, AreInputs}
use Rattle.gate_plan.proofs.sides.input_diagrams.Given as goal

abbrev pub invariant-loop-i : goal.invariant-loop-i
invariant-loop-i l = record {
  len : length l.built.items ≡ l.i;
  each : (k : ℕ) (one : PlannedNet) (refs : List Ref) → k < l.i → get_or l.sides k one ≡ one → get_or l.built.items k refs ≡ refs → AreInputs one.net (input_level one) l.variables refs;
}
