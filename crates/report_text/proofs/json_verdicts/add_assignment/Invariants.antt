use Rattle.std.proofs.Common.{◌≡◌, ◌++◌, drop}
use Rattle.report_text.specs.Json.{assignment_tokens}
use Rattle.report_text.proofs.json_verdicts.add_assignment.Given as goal

-- what is still to be added completes the tokens
abbrev pub invariant-loop-i : goal.invariant-loop-i
invariant-loop-i l =
    (l.out.before ≡ l.fn.out.before) × (l.out.tokens ++ assignment_tokens l.which (drop l.i l.names) (drop l.i l.bits) (drop l.i l.support_bits) ≡ l.fn.out.tokens ++ assignment_tokens l.which l.names l.bits l.support_bits)
