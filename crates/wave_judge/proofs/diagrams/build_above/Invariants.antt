use Rattle.std.proofs.Common.{◌≡◌, length}
use Rattle.req_table.specs.ComputedTables.{IsRight}
use Rattle.wave_judge.specs.OverLeaves.{AreDiagramsOver}
use Rattle.wave_judge.proofs.diagrams.build_above.Given as goal

abbrev pub invariant-loop-place : goal.invariant-loop-place
invariant-loop-place g l = record {
  built : AreDiagramsOver l.graph l.window l.store l.refs.items;
  right : IsRight l.store l.engine.held;
  each : length l.refs.items ≡ l.place;
}
