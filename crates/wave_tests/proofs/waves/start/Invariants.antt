use Rattle.std.proofs.Common.{◌≡◌, All}
use Rattle.dd_store.specs.View.{Has}
use Rattle.wave_tests.proofs.waves.start.Given as goal

abbrev pub invariant-loop-level : goal.invariant-loop-level
invariant-loop-level g l = record {
  levels : l.store.levels ≡ l.fn.store.levels;
  known : All (Has l.store) l.known.items;
}
