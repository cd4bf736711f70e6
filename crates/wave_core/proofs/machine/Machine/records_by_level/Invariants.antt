use Rattle.std.proofs.Common.{◌≡◌, ℕ, ◌<◌, [], map, length, get_or}
use Rattle.req_table.specs.Settled.{level_of_rows}
use Rattle.wave_core.specs.MachineView.{by_place}
use Rattle.wave_core.proofs.machine.Machine.records_by_level.Given as goal

abbrev pub invariant-loop-level : goal.invariant-loop-level
invariant-loop-level l = record {
  long : length l.rows.items ≡ l.level;
  made : (v : ℕ) → v < l.level → get_or (map (λ row. row.items) l.rows.items) v [] ≡ level_of_rows l.self.workers (by_place l.self.levels l.self.rows) v;
}
