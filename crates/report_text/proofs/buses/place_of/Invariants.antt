use Rattle.std.proofs.Common.{◌≡◌, drop}
use Rattle.std.specs.List.{position_from}
use Rattle.std.specs.Str.{bytes_eq}
use Rattle.net_bench.specs.Circuit.{find}
use Rattle.report_text.proofs.buses.place_of.Given as goal

-- the name is still to be found
abbrev pub invariant-loop-place : goal.invariant-loop-place
invariant-loop-place l = position_from (λ m. bytes_eq m l.name) l.place (drop l.place l.names) ≡ find l.names l.name
