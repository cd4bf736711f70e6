use Rattle.std.specs.Prelude.{◌≡◌, ℕ, ◌<◌, []}
use Rattle.wave_core.specs.MachineView.{by_place}
use Rattle.wave_core.proofs.machine.Machine.has_nothing_due.Given as goal

abbrev pub invariant-loop-to : goal.invariant-loop-to
invariant-loop-to l = (t : ℕ) → t < l.to → by_place l.self.workers l.self.due l.by t ≡ []
