use Rattle.std.proofs.Common.{◌≡◌, ◌<◌, ◌^◌, All}
use Rattle.dd_store.specs.View.{Has}
use Rattle.wave_tests.proofs.same_store.same_store.Given as goal

abbrev pub invariant-loop : goal.invariant-loop
invariant-loop g l = record {
  levels : l.store.levels ≡ 8;
  number : l.x < 2 ^ 31;
  known : All (Has l.store) l.known.items;
}
