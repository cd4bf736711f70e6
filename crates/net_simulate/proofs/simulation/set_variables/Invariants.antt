use Rattle.std.proofs.Common.{◌≡◌, ℕ, ◌<◌, get_or}
use Rattle.net_bench.specs.Labels.{bit_of}
use Rattle.net_simulate.specs.Columns.{column}
use Rattle.net_simulate.proofs.simulation.set_variables.Given as goal

abbrev pub invariant-loop-place : goal.invariant-loop-place
invariant-loop-place g l = (i : ℕ) → i < g.V.Packed.count → (k d : ℕ) → k < l.place → bit_of (column g.V.Packed.bit i l.values) (get_or l.variables k d) ≡ bit_of (column g.V.Packed.bit i l.at) (get_or l.levels k 0)
