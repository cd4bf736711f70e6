use Rattle.std.proofs.Common.{◌≡◌, take}
use Rattle.reduce_up.specs.Waves.{requests_of}
use Rattle.wave_doors.proofs.waves.requests_of.Given as goal

abbrev pub invariant-loop-entry : goal.invariant-loop-entry
invariant-loop-entry l = l.keys.items ≡ requests_of (take l.entry-index l.entries)
