use Rattle.std.proofs.Common.{◌≡◌, ◌≢◌, ℕ, ◌+◌, ◌<◌, ◌≤◌, length, get_or}
use Rattle.net_bench.specs.Heights.{unranked}
use Rattle.net_bench.proofs.ranks.set_variable_heights.Given as goal

abbrev pub invariant-loop-variable : goal.invariant-loop-variable
invariant-loop-variable l = record {
  passed : (k : ℕ) → k < l.variable-index → get_or l.heights (get_or l.variables k 0) 0 ≡ 1;
  others : (s : ℕ) → ((k : ℕ) → k < l.variable-index → s ≢ get_or l.variables k 0) → get_or l.heights s 0 ≡ 0;
  one : (s : ℕ) → get_or l.heights s 0 ≤ 1;
  low : (s : ℕ) → get_or l.heights s 0 + unranked l.heights ≤ length l.heights;
}
