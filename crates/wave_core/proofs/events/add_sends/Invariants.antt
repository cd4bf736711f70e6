use Rattle.std.proofs.Common.{◌≡◌, ◌++◌}
use Rattle.wave_core.specs.Drive.{sends}
use Rattle.wave_core.proofs.events.add_sends.Given as goal

abbrev pub invariant-loop-to : goal.invariant-loop-to
invariant-loop-to l = l.events.items ≡ l.fn.events.items ++ sends l.by l.to
