use Rattle.std.proofs.Common.{◌≡◌, ◌++◌, drop}
use Rattle.report_text.specs.Json.{verdicts_tokens}
use Rattle.report_text.proofs.json_verdicts.add_verdicts.Given as goal

-- what is still to be added completes the tokens
abbrev pub invariant-loop-verdict : goal.invariant-loop-verdict
invariant-loop-verdict l =
    (l.out.before ≡ l.fn.out.before) × (l.out.tokens ++ verdicts_tokens l.layout.which l.layout.names.now (drop l.verdict-index l.verdicts) ≡ l.fn.out.tokens ++ verdicts_tokens l.layout.which l.layout.names.now l.verdicts)
