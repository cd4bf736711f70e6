use Rattle.std.proofs.Common.{◌<◌, ◌≤◌, arith, length, subst}
use Rattle.std.specs.Prelude.{min}
use Rattle.explain_report.specs.declared.first_differences.FirstDifference.{FirstDifference}
use Rattle.explain_report.specs.Causing.{AreFirstDifferences}
use Rattle.explain_report.proofs.FirstDifferences.{all_more, all_zipped, next_first_difference}
use Rattle.explain_report.proofs.first_differences.all_first_differences.Goals as goal

pub loop-place-preserved : goal.loop-place-preserved
loop-place-preserved g c =
    let task = c.args.task.now in
    let known = λ (one : FirstDifference). one.inner.first < length task.first.now.names in (
      next_first_difference task.first.now task.second.now c.args.naming.now c.args.pairs.now c.args.verdicts.now c.loop-place.place c.index-pairs-place.result c.index-verdicts-place.result c.loop-place.all.items _ c.in_ok-one.one (omega arith) (omega arith)
          c.index-pairs-place.is c.index-verdicts-place.is c.loop-place.invariant.0 c.in_ok-one.ensures.differences c.in_ok-add_first_difference.ensures,
      all_more known c.loop-place.all.items _ c.in_ok-one.one c.loop-place.invariant.1 c.in_ok-one.ensures.known c.in_ok-add_first_difference.ensures,
    )

pub returns-clause-differences : goal.returns-clause-differences
returns-clause-differences g c =
    let task = c.args.task.now in
    let past : min (length c.args.pairs.now) (length c.args.verdicts.now) ≤ c.loop-place.place = omega arith in
    subst (λ xs. AreFirstDifferences task.first.now task.second.now c.args.naming.now xs c.loop-place.all.items) (all_zipped c.args.pairs.now c.args.verdicts.now c.loop-place.place past) c.loop-place.invariant.0
