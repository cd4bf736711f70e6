use Rattle.std.proofs.Common.{drop}
use Rattle.wave_core.specs.Cores.{core_wave, core_state}
use Rattle.wave_core.proofs.Drives.{NumbersOn, HasMore}
use Rattle.wave_core.proofs.waves.Core.nth_allowed.Given as goal

abbrev pub invariant-loop-event : goal.invariant-loop-event
invariant-loop-event l = record {
  numbers : NumbersOn (core_wave l.self) (core_state l.self) l.events (drop l.event-index l.events) l.number l.left;
  more : HasMore (core_wave l.self) (core_state l.self) (drop l.event-index l.events) l.left;
}
