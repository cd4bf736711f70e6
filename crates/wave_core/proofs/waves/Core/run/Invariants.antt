use Rattle.std.proofs.Common.{◌≡◌, ◌+◌, take}
use Rattle.wave_core.specs.Step.{IsRun}
use Rattle.wave_core.specs.Cores.{IsSameWave, events_done, core_wave, core_state}
use Rattle.wave_core.proofs.waves.Core.run.Given as goal

abbrev pub invariant-loop-event : goal.invariant-loop-event
invariant-loop-event l = record { same : IsSameWave l.fn.self l.self; counts : events_done l.self ≡ events_done l.fn.self + l.event-index; runs : IsRun (core_wave l.fn.self) (core_state l.fn.self) (take l.event-index l.events) (core_state l.self) }
