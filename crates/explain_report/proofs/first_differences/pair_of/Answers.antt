use Rattle.std.proofs.Common.{◌∙◌, List, ap, ℕ}
use Rattle.report_text.specs.declared.cause.PairName.{PairName}
use Rattle.explain_report.proofs.first_differences.pair_of.Goals as goal

pub returns : goal.returns
returns c = ap (λ (name : List ℕ). let t : PairName = record { role = c.args.role; name = name } in t) (c.in_ok-name.ensures ∙ c.as_slice.ensures)
