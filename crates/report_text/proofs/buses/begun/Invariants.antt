use Rattle.std.proofs.Common.{◌≡◌, ◌≤◌, take}
use Rattle.std.specs.Prelude.{count_by}
use Rattle.report_text.specs.Buses.{begins}
use Rattle.report_text.proofs.buses.begun.Given as goal

-- those so far are counted
abbrev pub invariant-loop-place : goal.invariant-loop-place
invariant-loop-place l = (l.count ≡ count_by (begins l.base) (take l.place l.names)) × (l.count ≤ l.place)
