use Rattle.std.proofs.Common.{sym}
use Rattle.explain_report.proofs.Differences.{at_here, at_later, at_nowhere}
use Rattle.explain_report.proofs.vcd_dump.first_difference_at.Goals as goal

pub loop-place-preserved : goal.loop-place-preserved
loop-place-preserved c =
    at_later c.args.verdicts.now c.loop-place.place c.index-verdicts-place.result c.loop-place-test.true c.index-verdicts-place.is (sym c.in_default.ensures) c.loop-place.invariant

pub returns-in-Some : goal.returns-in-Some
returns-in-Some c =
    sym (at_here c.args.verdicts.now c.loop-place.place c.index-verdicts-place.result c.in-Some.at.now c.loop-place-test.true c.index-verdicts-place.is (sym c.in-Some.ensures) c.loop-place.invariant)

pub returns : goal.returns
returns c = sym (at_nowhere c.args.verdicts.now c.loop-place.place c.loop-place-test.false c.loop-place.invariant)
