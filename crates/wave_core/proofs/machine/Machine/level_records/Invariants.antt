use Rattle.std.proofs.Common.{◌≡◌}
use Rattle.req_table.specs.Settled.{level_of_rows}
use Rattle.wave_core.specs.MachineView.{by_place}
use Rattle.wave_core.proofs.machine.Machine.level_records.Given as goal

abbrev pub invariant-loop-worker : goal.invariant-loop-worker
invariant-loop-worker l = l.records.items ≡ level_of_rows l.worker (by_place l.self.levels l.self.rows) l.level
