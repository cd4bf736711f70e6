use Rattle.std.proofs.Common.{◌≢◌, ◌<◌, ℕ, length, get_or}
use Rattle.wave_tests.proofs.least.assert_order.Given as goal

-- the levels so far have different variables
abbrev pub invariant-loop-level : goal.invariant-loop-level
invariant-loop-level g l = record {
  declared : (v : ℕ) → v < l.level → get_or l.order v 0 < l.levels;
  apart : (u v : ℕ) → u < v → v < l.level → get_or l.order u 0 ≢ get_or l.order v 0;
}

abbrev pub invariant-loop-above : goal.invariant-loop-above
invariant-loop-above g l = record {
  declared : (v : ℕ) → v < l.level → get_or l.order v 0 < l.levels;
  apart : (u v : ℕ) → u < v → v < l.level → get_or l.order u 0 ≢ get_or l.order v 0;
  own : get_or l.order l.level 0 < l.levels;
  within : l.level < length l.order;
  here : (u : ℕ) → u < l.above → get_or l.order u 0 ≢ get_or l.order l.level 0;
}
