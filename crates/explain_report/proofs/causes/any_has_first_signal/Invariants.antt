use Rattle.std.proofs.Common.{◌≡◌, false, take}
use Rattle.std.specs.List.{list_any}
use Rattle.explain_report.specs.Causing.{has_first_signal}
use Rattle.explain_report.proofs.causes.any_has_first_signal.Given as goal

-- none so far has it
abbrev pub invariant-loop-one : goal.invariant-loop-one
invariant-loop-one l = list_any (has_first_signal l.signal) (take l.one-index l.differences) ≡ false
