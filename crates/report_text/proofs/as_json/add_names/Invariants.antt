use Rattle.std.proofs.Common.{◌≡◌, ◌++◌, drop}
use Rattle.report_text.specs.Json.{names_tokens}
use Rattle.report_text.proofs.as_json.add_names.Given as goal

-- what is still to be added completes the tokens
abbrev pub invariant-loop-i : goal.invariant-loop-i
invariant-loop-i l = (l.out.before ≡ l.fn.out.before) × (l.out.tokens ++ names_tokens (drop l.i l.names) ≡ l.fn.out.tokens ++ names_tokens l.names)
