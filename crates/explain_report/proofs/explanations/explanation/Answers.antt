use Rattle.std.proofs.Common.{sym, subst, IfOk}
use Rattle.std.specs.Prelude.{find}
use Rattle.net_bench.specs.Circuit.{circuit}
use Rattle.compare_built.specs.Comparing.{IsInside}
use Rattle.explain_report.specs.Explaining.{ExplainsTarget, is_subject_of, is_verdict_on}
use Rattle.explain_report.proofs.Explaining.{all_found}
use Rattle.explain_report.proofs.explanations.explanation.Goals as goal

pub explained_pair-requires : goal.explained_pair-requires
explained_pair-requires g c =
    let a = circuit c.args.task.now.first.now in
    all_found (IsInside a (circuit c.args.task.now.second.now)) (is_subject_of a c.args.target.now) c.args.subjects.now c.in-Some.subject c.requires (sym c.in-Some.ensures)

pub returns-in-Some : goal.returns-in-Some
returns-in-Some g c =
    let task = c.args.task.now in
    subst (λ o. IfOk c.explained_pair.result (λ text. ExplainsTarget task.first.now task.second.now c.args.naming.now c.args.target.now o (find (is_verdict_on c.args.target.now) c.args.verdicts.now) text.items))
    c.in-Some.ensures c.explained_pair.ensures

pub returns-in-None : goal.returns-in-None
returns-in-None g c =
    let task = c.args.task.now in
    subst (λ o. IfOk c.status_line.result (λ text. ExplainsTarget task.first.now task.second.now c.args.naming.now c.args.target.now o (find (is_verdict_on c.args.target.now) c.args.verdicts.now) text.items))
    c.in-None.ensures c.status_line.ensures
