use Rattle.std.proofs.Common.{◌≡◌, ◌++◌, drop}
use Rattle.report_text.specs.Lines.{assignment_text}
use Rattle.report_text.proofs.lines.add_assignment.Given as goal

-- what is still to be added completes the text
abbrev pub invariant-loop-i : goal.invariant-loop-i
invariant-loop-i l =
    l.text.items ++ assignment_text l.which (drop l.i l.names) (drop l.i l.bits) (drop l.i l.support_bits) ≡ l.fn.text.items ++ assignment_text l.which l.names l.bits l.support_bits
