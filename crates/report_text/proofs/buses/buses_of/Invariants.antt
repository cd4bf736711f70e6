use Rattle.std.proofs.Common.{◌≡◌, ◌++◌, drop}
use Rattle.std.specs.Prelude.{flat_map}
use Rattle.report_text.specs.Buses.{bus_at, buses_of}
use Rattle.report_text.proofs.buses.buses_of.Given as goal

-- what is still to be added completes the buses
abbrev pub invariant-loop-place : goal.invariant-loop-place
invariant-loop-place l = l.buses.items ++ flat_map (bus_at l.names) (drop l.place l.names) ≡ buses_of l.names
