use Rattle.std.proofs.Common.{◌≡◌, ℕ, ◌<◌, [], map, length, get_or}
use Rattle.req_table.specs.Settled.{level_of_rows}
use Rattle.expand_work.specs.WavePorts.{row_of}
use Rattle.wave_doors.proofs.merge.merge_rows.Given as goal

abbrev pub invariant-loop-level : goal.invariant-loop-level
invariant-loop-level l = record {
  long : length l.merged.items ≡ l.level;
  made : (v : ℕ) → v < l.level → get_or (map (λ row. row.items) l.merged.items) v [] ≡ level_of_rows l.workers (row_of l.parts.rows) v;
}
