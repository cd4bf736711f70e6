use Rattle.std.proofs.Common.{◌≡◌, ◌++◌}
use Rattle.wave_core.specs.Drive.{ends_of}
use Rattle.wave_core.proofs.events.add_ends.Given as goal

abbrev pub invariant-loop-to : goal.invariant-loop-to
invariant-loop-to l = l.events.items ≡ l.fn.events.items ++ ends_of l.by l.to
