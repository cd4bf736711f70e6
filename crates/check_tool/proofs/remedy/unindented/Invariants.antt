use Rattle.std.proofs.Common.{◌≡◌, drop}
use Rattle.check_tool.specs.Helping.{unindented}
use Rattle.check_tool.proofs.remedy.unindented.Given as goal

abbrev pub invariant-loop-at : goal.invariant-loop-at
invariant-loop-at l = unindented l.bytes ≡ unindented (drop l.at l.bytes)
