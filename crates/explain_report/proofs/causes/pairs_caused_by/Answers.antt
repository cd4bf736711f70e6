use Rattle.explain_report.specs.declared.first_differences.FirstDifference.{FirstDifference}
use Rattle.explain_report.specs.Causing.{has_first_signal}
use Rattle.explain_report.proofs.FirstDifferences.{more_caused_by}
use Rattle.explain_report.proofs.causes.pairs_caused_by.Goals as goal

pub loop-place-preserved : goal.loop-place-preserved
loop-place-preserved c =
    more_caused_by (λ (one : FirstDifference). one.pair) (has_first_signal c.args.signal) c.args.differences.now c.loop-place.place c.index-differences-place.result c.loop-place.pairs.items _ c.loop-place-test.true c.index-differences-place.is c.loop-place.invariant
    c.in_ok-add_if_caused_by.ensures
