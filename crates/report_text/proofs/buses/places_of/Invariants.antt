use Rattle.std.proofs.Common.{◌≡◌, ◌++◌, ◌-◌, length}
use Rattle.report_text.specs.Buses.{places_from}
use Rattle.report_text.proofs.buses.places_of.Given as goal

-- what is still to be added completes the places
abbrev pub invariant-loop-bit : goal.invariant-loop-bit
invariant-loop-bit l = l.places.items ++ places_from l.names l.base (length l.names - l.bit) l.bit ≡ places_from l.names l.base (length l.names) 0
