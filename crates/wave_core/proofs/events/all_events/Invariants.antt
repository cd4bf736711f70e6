use Rattle.std.proofs.Common.{◌≡◌}
use Rattle.wave_core.specs.Drive.{events_below}
use Rattle.wave_core.proofs.events.all_events.Given as goal

abbrev pub invariant-loop-by : goal.invariant-loop-by
invariant-loop-by l = l.events.items ≡ events_below l.workers l.by
