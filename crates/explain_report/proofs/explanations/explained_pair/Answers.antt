use Rattle.std.proofs.Common.{◌≡◌, ◌∙◌, sym, subst, Some, IfOk}
use Rattle.std.specs.Prelude.{find}
use Rattle.explain_report.specs.Explaining.{ExplainsPair, is_verdict_on}
use Rattle.explain_report.proofs.Explaining.{found_here, found_later, found_nowhere}
use Rattle.explain_report.proofs.explanations.explained_pair.Goals as goal

pub loop-place-preserved : goal.loop-place-preserved
loop-place-preserved g c =
    found_later (is_verdict_on c.args.target.now) c.args.verdicts.now c.loop-place.place c.index-verdicts-place.result c.loop-place-test.true c.index-verdicts-place.is
    (sym c.is_verdict_on.ensures ∙ c.if-is_verdict_on.false) c.loop-place.invariant

pub returns-then-is_verdict_on : goal.returns-then-is_verdict_on
returns-then-is_verdict_on g c =
    let f = is_verdict_on c.args.target.now in
    let v = c.index-verdicts-place.result in
    let is : find f c.args.verdicts.now ≡ Some v =
    found_here f c.args.verdicts.now c.loop-place.place v c.loop-place-test.true c.index-verdicts-place.is (sym c.is_verdict_on.ensures ∙ c.if-is_verdict_on.true) c.loop-place.invariant in
    subst (λ o. IfOk c.explained.result (λ text. ExplainsPair c.args.task.now.first.now c.args.task.now.second.now c.args.naming.now c.args.target.now c.args.subject o text.items)) (sym is) c.explained.ensures

pub returns : goal.returns
returns g c =
    subst (λ o. IfOk c.status_line.result (λ text. ExplainsPair c.args.task.now.first.now c.args.task.now.second.now c.args.naming.now c.args.target.now c.args.subject o text.items))
    (sym (found_nowhere (is_verdict_on c.args.target.now) c.args.verdicts.now c.loop-place.place c.loop-place-test.false c.loop-place.invariant)) c.status_line.ensures
