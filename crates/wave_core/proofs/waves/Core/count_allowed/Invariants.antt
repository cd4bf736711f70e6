use Rattle.std.proofs.Common.{◌≤◌, drop}
use Rattle.wave_core.specs.Cores.{core_wave, core_state}
use Rattle.wave_core.proofs.Drives.{CountsOn}
use Rattle.wave_core.proofs.waves.Core.count_allowed.Given as goal

abbrev pub invariant-loop-event : goal.invariant-loop-event
invariant-loop-event l = record { few : l.count ≤ l.event-index; counts : CountsOn (core_wave l.self) (core_state l.self) l.events (drop l.event-index l.events) l.count }
