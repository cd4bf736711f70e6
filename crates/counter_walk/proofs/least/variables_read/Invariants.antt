use Rattle.std.proofs.Common.{◌≡◌, ◌<◌, ℕ, true, false, length, get_or, slice_get, Some}
use Rattle.counter_walk.specs.declared.least.DiffLine.TheVariants.{Branch}
use Rattle.counter_walk.proofs.least.variables_read.Given as goal

-- the variables of the lines so far are read
abbrev pub invariant-loop-line : goal.invariant-loop-line
invariant-loop-line l = record {
  size : length l.reads.items ≡ l.variables;
  done : (p d low high : ℕ) → p < l.line-index → slice_get l.lines p ≡ Some (Branch d low high) → get_or l.reads.items d false ≡ true;
}
