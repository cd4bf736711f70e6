use Rattle.std.proofs.Common.{◌⊎◌, ℕ, ◌+◌, ◌<◌, length}
use Rattle.std.specs.Prelude.{All, Contains}
use Rattle.net_cone.specs.Walk.{IsVisited, IsWalkBelow, unvisited}
use Rattle.net_cone.proofs.below.visit_below.Given as goal

abbrev pub invariant-loop-signal : goal.invariant-loop-signal
invariant-loop-signal l = record {
  walking : IsWalkBelow l.net l.root l.seen l.waiting.items;
  met : (s : ℕ) → IsVisited l.seen s → Contains l.waiting.items s ⊎ Contains l.met.items s;
  in_bounds : All (λ s. s < length l.net.names) l.initial.met.items → All (λ s. s < length l.net.names) l.met.items;
}

abbrev pub decreases-loop-signal : goal.decreases-loop-signal
decreases-loop-signal l = unvisited l.seen + length l.waiting.items
