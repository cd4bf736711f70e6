use Rattle.std.proofs.Common.{◌≡◌, drop}
use Rattle.check_tool.specs.Helping.{after_equals}
use Rattle.check_tool.proofs.remedy.after_equals.Given as goal

abbrev pub invariant-loop-at : goal.invariant-loop-at
invariant-loop-at l = after_equals l.line ≡ after_equals (drop l.at l.line)
