use Rattle.std.proofs.Common.{All}
use Rattle.dd_store.specs.View.{Has}
use Rattle.req_table.specs.ComputedTables.{IsRight}
use Rattle.wave_tests.proofs.earlier.call_in.Given as goal

abbrev pub invariant-loop-offset : goal.invariant-loop-offset
invariant-loop-offset g l = record {
  known : All (Has l.store) l.known.items;
  right : IsRight l.store l.engine.held;
}
