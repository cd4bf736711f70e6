use Rattle.std.proofs.Common.{◌≡◌, ◌++◌, drop, map, take}
use Rattle.explain_report.specs.Causing.{cause_of, causes_of, first_signals}
use Rattle.explain_report.proofs.causes.causes_of.Given as goal

-- what is still to come completes the causes
abbrev pub invariant-loop-place : goal.invariant-loop-place
invariant-loop-place l = l.causes.items ++ map (cause_of l.net.names l.differences) (first_signals (take l.place l.differences) (drop l.place l.differences)) ≡ causes_of l.net.names l.differences
