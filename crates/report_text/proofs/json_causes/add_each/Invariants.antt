use Rattle.std.proofs.Common.{◌≡◌, ◌++◌, drop}
use Rattle.report_text.specs.Json.{caused_tokens}
use Rattle.report_text.proofs.json_causes.add_each.Given as goal

-- what is still to be added completes the tokens
abbrev pub invariant-loop-cause : goal.invariant-loop-cause
invariant-loop-cause l = (l.out.before ≡ l.fn.out.before) × (l.out.tokens ++ caused_tokens (drop l.cause-index l.causes) ≡ l.fn.out.tokens ++ caused_tokens l.causes)
