use Rattle.std.proofs.Common.{ℕ, ◌<◌, take}
use Rattle.std.specs.Prelude.{All}
use Rattle.net_simulate.specs.Columns.{KeepsVariables, column}
use Rattle.net_simulate.specs.Schedules.{HasValue}
use Rattle.net_simulate.proofs.simulation.set_gates.Given as goal

abbrev pub invariant-loop-place : goal.invariant-loop-place
invariant-loop-place g l = record {
  set : (i : ℕ) → i < g.V.Packed.count → All (HasValue (column g.V.Packed.bit i l.values)) (take l.place l.schedule);
  kept : (i : ℕ) → i < g.V.Packed.count → KeepsVariables l.net (column g.V.Packed.bit i l.initial.values) (column g.V.Packed.bit i l.values);
}
