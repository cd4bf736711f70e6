use Rattle.std.proofs.Common.{◌≡◌, ◌<◌, ℕ, false, length, get_or, slice_get, Some}
use Rattle.counter_walk.specs.declared.least.DiffLine.{DiffLine}
use Rattle.counter_walk.specs.Lines.{line_satisfiable}
use Rattle.counter_walk.proofs.least.find_satisfiable.Given as goal

-- the bits before a place are right
abbrev pub invariant-loop-place : goal.invariant-loop-place
invariant-loop-place l = record {
  each : length l.satisfiable ≡ length l.lines;
  done : (p : ℕ) (line : DiffLine) → p < l.place → slice_get l.lines p ≡ Some line → get_or l.satisfiable p false ≡ line_satisfiable l.bits l.satisfiable line;
}
