use Rattle.std.proofs.Common.{◌≡◌}
use Rattle.expand_work.specs.WorkerState.{IsWorking}
use Rattle.expand_work.proofs.worker.run_levels.Given as goal

abbrev pub invariant-loop-level : goal.invariant-loop-level
invariant-loop-level g l = IsWorking l.context.lanes.now l.context.store.now l.context.roots.now l.level l.worker × (l.worker.port.number ≡ l.initial.worker.port.number)
