use Rattle.std.proofs.Common.{◌≡◌, ◌<◌, ℕ, map, drop, cond, not}
use Rattle.net_bench.specs.Labels.{bit_of, odd}
use Rattle.net_simulate.specs.Columns.{column}
use Rattle.net_simulate.proofs.gates.odd.Given as goal

-- what remains completes the fold
abbrev pub invariant-loop-place : goal.invariant-loop-place
invariant-loop-place g l = (i : ℕ) → i < g.V.Packed.count → (let rest = odd (map (bit_of (column g.V.Packed.bit i l.values)) (drop l.place l.operands)) in cond (g.V.Packed.bit i l.odd) (not rest) rest) ≡ odd (map (bit_of (column g.V.Packed.bit i l.values)) l.operands)
