use Rattle.std.proofs.Common.{◌≡◌, ◌++◌, drop}
use Rattle.report_text.specs.Json.{numbers_tokens}
use Rattle.report_text.proofs.json_verdicts.add_numbers.Given as goal

-- what is still to be added completes the tokens
abbrev pub invariant-loop-bus : goal.invariant-loop-bus
invariant-loop-bus l = (l.out.before ≡ l.fn.out.before) × (l.out.tokens ++ numbers_tokens l.bits (drop l.bus-index l.buses) ≡ l.fn.out.tokens ++ numbers_tokens l.bits l.buses)
