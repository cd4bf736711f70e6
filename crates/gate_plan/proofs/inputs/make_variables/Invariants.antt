use Rattle.std.proofs.Common.{◌≡◌, ◌<◌, ℕ, Bool, List, length}
use Rattle.dd_store.specs.Graph.{bit}
use Rattle.dd_store.specs.Nodes.{IsSound, den}
use Rattle.dd_store.specs.View.{Has}
use Rattle.reduce_up.specs.Reducing.{AddsDescribed}
use Rattle.gate_plan.specs.Building.{reference_of}
use Rattle.gate_plan.specs.Folds.{IsVariable}
use Rattle.gate_plan.specs.Need.{IsCounted}
use Rattle.gate_plan.specs.Needing.{IsStillWithin}
use Rattle.gate_plan.proofs.inputs.make_variables.Given as goal

abbrev pub invariant-loop-level : goal.invariant-loop-level
invariant-loop-level l = record {
  sound : IsSound l.store;
  adds : AddsDescribed l.fn.store l.store (IsCounted l.fn.store.levels (IsVariable l.fn.store.levels));
  within : IsStillWithin l.fn.store l.store;
  each : length l.variables.items ≡ l.level;
  has : (v : ℕ) → v < l.level → Has l.store (reference_of l.variables.items v);
  bits : (v : ℕ) → v < l.level → (x : List Bool) → den l.store (reference_of l.variables.items v) x ≡ bit x v;
}
