use Rattle.explain_report.proofs.FirstDifferences.{of_verdict}
use Rattle.explain_report.proofs.first_differences.first_difference_of.Goals as goal

pub returns-in_ok-pair-in-Differs-clause-differences : goal.returns-in_ok-pair-in-Differs-clause-differences
returns-in_ok-pair-in-Differs-clause-differences g c =
    let task = c.args.task.now in
    of_verdict task.first.now task.second.now c.args.naming.now c.args.subject c.subject_first_difference.result c.in_ok-pair-in-Differs.pair c.as_slice.result.now c.args.verdict.now _ _ _ _ _ _ c.in-Differs.is c.in_ok-pair-in-Differs.ensures c.as_slice.ensures
    c.subject_first_difference.ensures.differences
