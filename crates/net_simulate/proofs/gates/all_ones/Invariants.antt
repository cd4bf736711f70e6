use Rattle.std.proofs.Common.{◌≡◌, ◌<◌, ℕ, map, drop, ◌&&◌}
use Rattle.net_bench.specs.Labels.{bit_of, all_ones}
use Rattle.net_simulate.specs.Columns.{column}
use Rattle.net_simulate.proofs.gates.all_ones.Given as goal

-- what remains completes the fold
abbrev pub invariant-loop-place : goal.invariant-loop-place
invariant-loop-place g l = (i : ℕ) → i < g.V.Packed.count → (g.V.Packed.bit i l.all && all_ones (map (bit_of (column g.V.Packed.bit i l.values)) (drop l.place l.operands))) ≡ all_ones (map (bit_of (column g.V.Packed.bit i l.values)) l.operands)
