use Rattle.std.proofs.Common.{◌≡◌, ◌⊎◌, ℕ, ◌+◌, ◌<◌, length, get_or}
use Rattle.std.specs.Prelude.{All, Contains}
use Rattle.net_cone.specs.Walk.{IsVisited, KeepsVisited, unvisited}
use Rattle.net_cone.proofs.below.visit_all.Given as goal

abbrev pub invariant-loop-place : goal.invariant-loop-place
invariant-loop-place l = record {
  here : (k d : ℕ) → k < l.place → IsVisited l.seen (get_or l.signals k d);
  kept : KeepsVisited l.initial.seen l.seen;
  only : (s : ℕ) → IsVisited l.seen s → IsVisited l.initial.seen s ⊎ (Contains l.signals s × Contains l.waiting.items s);
  waiting : (s : ℕ) → Contains l.initial.waiting.items s → Contains l.waiting.items s;
  visited : All (λ s. IsVisited l.initial.seen s) l.initial.waiting.items → All (λ s. IsVisited l.seen s) l.waiting.items;
  steps : unvisited l.seen + length l.waiting.items ≡ unvisited l.initial.seen + length l.initial.waiting.items;
}
