use Rattle.std.proofs.Common.{◌≡◌, ◌++◌, drop}
use Rattle.report_text.specs.Json.{pairs_tokens}
use Rattle.report_text.proofs.json_causes.add_each_pair.Given as goal

-- what is still to be added completes the tokens
abbrev pub invariant-loop-pair : goal.invariant-loop-pair
invariant-loop-pair l = (l.out.before ≡ l.fn.out.before) × (l.out.tokens ++ pairs_tokens (drop l.pair-index l.pairs) ≡ l.fn.out.tokens ++ pairs_tokens l.pairs)
