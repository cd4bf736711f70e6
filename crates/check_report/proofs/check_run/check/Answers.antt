use Rattle.std.proofs.Common.{inr, subst}
use Rattle.std.proofs.lemmas.Result.{err_from_is_err_and}
use Rattle.std.specs.Io.KnownBytes.{Appends}
use Rattle.report_text.specs.Writing.{AppendsFront}
use Rattle.explain_report.proofs.Trying.{found_accepted}
use Rattle.check_report.proofs.check_run.check.Goals as goal

pub returns-in-Ok-clause-report : goal.returns-in-Ok-clause-report
returns-in-Ok-clause-report g c = (c.in_ok-texts.texts.report.items, c.in_ok-texts.ensures.report.report, subst (Appends _ _) c.as_slice.ensures.value c.in-Ok.ensures.ok)

pub returns-in-Ok-clause-vcd : goal.returns-in-Ok-clause-vcd
returns-in-Ok-clause-vcd g c = (c.in_ok-texts.texts.report.items, c.in_ok-texts.ensures.report, subst (Appends _ _) c.as_slice.ensures.value c.in-Ok.ensures.ok)

pub returns-clause-fault : goal.returns-clause-fault
returns-clause-fault g c = inr (found_accepted _ _ _ _ _ c.in_ok-texts.ensures.report.report.by)

pub returns-clause-unwritten : goal.returns-clause-unwritten
returns-clause-unwritten g c = λ _.
    (c.in_ok-texts.outcome, c.in_ok-texts.tried, c.in_ok-texts.texts.report.items, c.in_ok-texts.texts.vcd, c.in_ok-texts.ensures.report, subst (AppendsFront _ _ _ _) c.as_slice.ensures.value c.in-Err.ensures.err)

pub returns-clause-names_first : goal.returns-clause-names_first
returns-clause-names_first g c = λ after. c.in_ok-texts.ensures.names_known

pub returns-in_err-texts-clause-names_first : goal.returns-in_err-texts-clause-names_first
returns-in_err-texts-clause-names_first g c =
    let r = err_from_is_err_and c.from_residual.result c.from_residual.ensures.1 in
    rw (r.1, r.2) c.in_err-texts.ensures.names_first

pub returns-in_err-texts-clause-answer : goal.returns-in_err-texts-clause-answer
returns-in_err-texts-clause-answer g c =
    let r = err_from_is_err_and c.from_residual.result c.from_residual.ensures.1 in
    rw (r.1, r.2) c.in_err-texts.ensures.answer
