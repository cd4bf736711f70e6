use Rattle.std.proofs.Common.{All}
use Rattle.dd_store.specs.View.{Has}
use Rattle.req_table.specs.ComputedTables.{IsRight}
use Rattle.wave_tests.proofs.widths.waves_of.Given as goal

abbrev pub invariant-loop : goal.invariant-loop
invariant-loop g l = record {
  known : All (Has l.store) l.known.items;
  right : IsRight l.store l.engine.held;
}
