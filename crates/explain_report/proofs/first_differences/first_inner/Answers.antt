use Rattle.std.proofs.Common.{◌∙◌, ◌<◌, ap, length, subst, sym}
use Rattle.std.specs.Prelude.{All, slice_get}
use Rattle.net_explain.specs.declared.differing.InnerSignal.{InnerSignal}
use Rattle.explain_report.proofs.FirstDifferences.{first_has}
use Rattle.explain_report.proofs.first_differences.first_inner.Goals as goal

pub returns-clause-first : goal.returns-clause-first
returns-clause-first g c = (_, c.in_ok-explanation.ensures.explains, c.first_of.ensures ∙ ap (λ is. slice_get is 0) c.inner.ensures)

pub returns-clause-known : goal.returns-clause-known
returns-clause-known g c =
    let known = λ (i : InnerSignal). i.first < length c.args.task.now.first.now.names in
    first_has known c.inner.result.now c.first_of.result c.first_of.ensures (subst (All known) (sym c.inner.ensures) c.in_ok-explanation.ensures.known)
