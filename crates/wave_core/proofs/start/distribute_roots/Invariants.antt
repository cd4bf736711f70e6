use Rattle.std.proofs.Common.{◌≡◌, ◌*◌, length, take}
use Rattle.wave_core.specs.MachineView.{AreDistributed}
use Rattle.wave_core.proofs.start.distribute_roots.Given as goal

abbrev pub invariant-loop-place : goal.invariant-loop-place
invariant-loop-place l = record { size : length l.due.items ≡ l.workers * l.workers; distributed : AreDistributed l.workers (take l.place l.roots) l.due.items }
