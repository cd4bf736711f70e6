use Rattle.std.proofs.Common.{ℕ, take}
use Rattle.std.specs.List.{AllZip}
use Rattle.net_bench.specs.Circuit.{circuit}
use Rattle.net_cone.specs.Cones.{HasGates}
use Rattle.net_cone.specs.Walk.{IsVisited}
use Rattle.net_cone.proofs.counting.counts_below.Given as goal

abbrev pub invariant-loop-place : goal.invariant-loop-place
invariant-loop-place l = record {
  none : (s : ℕ) → IsVisited l.seen s → ⊥;
  counted : AllZip (HasGates (circuit l.net)) (take l.place l.roots) l.counts.items;
}
