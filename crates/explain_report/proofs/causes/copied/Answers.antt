use Rattle.std.proofs.Common.{◌∙◌, List, ap, ℕ}
use Rattle.report_text.specs.declared.cause.PairName.{PairName}
use Rattle.explain_report.proofs.causes.copied.Goals as goal

pub returns : goal.returns
returns c = ap (λ (name : List ℕ). let n : PairName = record { role = c.args.pair.now.role; name = name } in n) (c.in_ok-name.ensures ∙ c.as_slice.ensures)
