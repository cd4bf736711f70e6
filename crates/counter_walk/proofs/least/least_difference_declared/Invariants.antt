use Rattle.std.proofs.Common.{◌≡◌, length}
use Rattle.counter_walk.specs.Lines.{differs}
use Rattle.counter_walk.proofs.Fixing.{IsFixed}
use Rattle.counter_walk.proofs.least.least_difference_declared.Given as goal

-- the variables so far are fixed
abbrev pub invariant-loop-variable : goal.invariant-loop-variable
invariant-loop-variable l = record {
  many : length l.bits.items ≡ l.variable;
  each : length l.satisfiable.items ≡ length l.lines;
  fixed : IsFixed l.store.levels (differs l.store l.order l.fn.f l.fn.g) l.bits.items;
}
