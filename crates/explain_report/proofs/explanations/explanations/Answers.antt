use Rattle.std.proofs.Common.{◌∙◌, ◌++◌, ap, subst}
use Rattle.std.specs.Prelude.{find}
use Rattle.std.proofs.lemmas.List.{take_all}
use Rattle.net_bench.specs.Circuit.{circuit}
use Rattle.explain_report.specs.Explaining.{AreExplained, ExplainsTarget, is_subject_of, is_verdict_on}
use Rattle.explain_report.proofs.Explaining.{next_explained}
use Rattle.explain_report.proofs.explanations.explanations.Goals as goal

pub loop-place-preserved : goal.loop-place-preserved
loop-place-preserved g c =
    let task = c.args.task.now in
    let t = c.index-targets-place.result in
    next_explained task.first.now task.second.now c.args.naming.now c.args.verdicts.now c.as_slice-targets.result.now c.loop-place.place t c.loop-place.text.items _ c.in_ok-one.one.items c.loop-place-test.true c.index-targets-place.is
    c.loop-place.invariant
    (subst (λ us. ExplainsTarget task.first.now task.second.now c.args.naming.now t (find (is_subject_of (circuit task.first.now) t) us) (find (is_verdict_on t) c.args.verdicts.now) c.in_ok-one.one.items) c.requires.all c.in_ok-one.ensures)
    (c.in_ok-extend_from_slice.ensures.items ∙ ap (λ z. c.loop-place.text.items ++ z) c.as_slice.ensures.value)

pub returns : goal.returns
returns g c =
    let task = c.args.task.now in
    subst (λ ts. AreExplained task.first.now task.second.now c.args.naming.now c.args.verdicts.now ts c.loop-place.text.items) (take_all c.loop-place.place c.as_slice-targets.result.now c.loop-place-test.false ∙ c.as_slice-targets.ensures.value) c.loop-place.invariant
