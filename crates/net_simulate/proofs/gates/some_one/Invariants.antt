use Rattle.std.proofs.Common.{◌≡◌, ◌<◌, ℕ, map, drop, ◌||◌}
use Rattle.net_bench.specs.Labels.{bit_of, some_one}
use Rattle.net_simulate.specs.Columns.{column}
use Rattle.net_simulate.proofs.gates.some_one.Given as goal

-- what remains completes the fold
abbrev pub invariant-loop-place : goal.invariant-loop-place
invariant-loop-place g l = (i : ℕ) → i < g.V.Packed.count → (g.V.Packed.bit i l.some || some_one (map (bit_of (column g.V.Packed.bit i l.values)) (drop l.place l.operands))) ≡ some_one (map (bit_of (column g.V.Packed.bit i l.values)) l.operands)
