use Rattle.std.proofs.Common.{◌<◌, length, subst, sym}
use Rattle.std.specs.Prelude.{All, zip}
use Rattle.explain_report.specs.declared.first_differences.FirstDifference.{FirstDifference}
use Rattle.explain_report.proofs.FirstDifferences.{of_all}
use Rattle.explain_report.proofs.causes.all_causes.Goals as goal

pub causes_of-requires : goal.causes_of-requires
causes_of-requires g c = subst (All (λ (one : FirstDifference). one.inner.first < length c.args.task.now.first.now.names)) (sym c.as_slice.ensures.value) c.in_ok-differences.ensures.known

pub returns : goal.returns
returns g c =
    let task = c.args.task.now in
    of_all task.first.now task.second.now c.args.naming.now (zip c.args.pairs.now c.args.verdicts.now) c.in_ok-differences.differences.items c.as_slice.result.now c.causes_of.result c.in_ok-differences.ensures.differences c.as_slice.ensures.value c.causes_of.ensures
