use Rattle.std.proofs.Common.{◌≡◌, ◌<◌, ℕ, length, get_or}
use Rattle.dd_store.specs.declared.reference.Reference.TheVariants.{False}
use Rattle.net_order.specs.Order.{level_in}
use Rattle.gate_plan.specs.Building.{reference_of}
use Rattle.gate_plan.proofs.inputs.input_references.Given as goal

abbrev pub invariant-loop-input : goal.invariant-loop-input
invariant-loop-input l = record {
  each : length l.references.items ≡ length l.netlist.names;
  inputs : (k : ℕ) → k < l.input-index → reference_of l.references.items (get_or l.input-items k 0) ≡ reference_of l.variables (level_in l.pairing l.which (get_or l.input-items k 0));
  others : (s : ℕ) → ((k : ℕ) → k < l.input-index → get_or l.input-items k 0 ≡ s → ⊥) → reference_of l.references.items s ≡ False;
}
