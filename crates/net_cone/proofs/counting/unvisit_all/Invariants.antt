use Rattle.std.proofs.Common.{◌≡◌, ℕ, ◌+◌, ◌≤◌, drop}
use Rattle.std.specs.Prelude.{Contains}
use Rattle.net_cone.specs.Walk.{IsVisited, gates_visited}
use Rattle.net_cone.proofs.counting.unvisit_all.Given as goal

-- the signals whose flags are set are still to come, and their gates are still to be counted
abbrev pub invariant-loop-place : goal.invariant-loop-place
invariant-loop-place l = record {
  met : (s : ℕ) → IsVisited l.seen s → Contains (drop l.place l.met) s;
  gates : l.gates + gates_visited l.seen l.net.gates ≡ gates_visited l.initial.seen l.net.gates;
  few : l.gates ≤ l.place;
}
