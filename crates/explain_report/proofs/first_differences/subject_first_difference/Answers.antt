use Rattle.std.proofs.Common.{◌∙◌, ap, length, option_map}
use Rattle.explain_report.specs.Causing.{first_difference}
use Rattle.explain_report.proofs.FirstDifferences.{known_first_difference}
use Rattle.explain_report.proofs.first_differences.subject_first_difference.Goals as goal

pub returns-clause-differences : goal.returns-clause-differences
returns-clause-differences g c =
    let first = c.in_ok-first.ensures.first in
    (first.0, first.1, c.first_difference.ensures ∙ ap (option_map (first_difference c.args.pair)) first.2)

pub returns-clause-known : goal.returns-clause-known
returns-clause-known g c = known_first_difference c.args.pair c.in_ok-first.first c.first_difference.result (length c.args.task.now.first.now.names) c.first_difference.ensures c.in_ok-first.ensures.known
