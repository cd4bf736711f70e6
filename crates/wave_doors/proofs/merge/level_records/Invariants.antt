use Rattle.std.proofs.Common.{◌≡◌}
use Rattle.req_table.specs.Settled.{level_of_rows}
use Rattle.expand_work.specs.WavePorts.{row_of}
use Rattle.wave_doors.proofs.merge.level_records.Given as goal

abbrev pub invariant-loop-worker : goal.invariant-loop-worker
invariant-loop-worker l = l.records.items ≡ level_of_rows l.worker (row_of l.parts.rows) l.level
