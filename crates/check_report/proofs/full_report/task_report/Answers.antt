use Rattle.std.proofs.Common.{◌≡◌, inr}
use Rattle.std.proofs.lemmas.Result.{err_from_is_err_and}
use Rattle.compare_built.specs.Findings.{found_of}
use Rattle.compare_built.specs.declared.fault.CheckFault.TheVariants.{Write}
use Rattle.explain_report.proofs.Trying.{found_accepted}
use Rattle.check_report.proofs.full_report.task_report.Goals as goal

pub returns-clause-report : goal.returns-clause-report
returns-clause-report g c = λ input ga.
    let text = c.in_ok-report.ensures.text input ga in
    record {
      report = record {
        found = found_of c.in_ok-verdicts.verdicts;
        by = (c.in_ok-verdicts.ensures.decision input ga).found_by;
        counts = c.outcome.ensures;
        causes = text.0;
        caused = text.1;
        stopped = c.was_stopped-stopped.result;
        may_stop = c.was_stopped-stopped.ensures.stops;
        explanations = text.2;
        explained = text.3;
        text = text.4;
      };
      dump = c.in_ok-vcd.ensures.dump input ga c.in_ok-verdicts.tried c.in_ok-verdicts.ensures.named;
    }

pub returns-clause-earlier_given_up : goal.returns-clause-earlier_given_up
returns-clause-earlier_given_up g c = λ input ga. (c.in_ok-verdicts.ensures.decision input ga).earlier_given_up

-- ---- no verdicts

pub returns-in_err-verdicts-clause-answer : goal.returns-in_err-verdicts-clause-answer
returns-in_err-verdicts-clause-answer g c = λ input ga.
    let e = err_from_is_err_and c.from_residual.result c.from_residual.ensures.1 in
    rw (e.1, e.2) (c.in_err-verdicts.ensures.no_decision input ga).answer

pub returns-in_err-verdicts-clause-fault : goal.returns-in_err-verdicts-clause-fault
returns-in_err-verdicts-clause-fault g c = λ input ga.
    let e = err_from_is_err_and c.from_residual.result c.from_residual.ensures.1 in
    rw (e.1, e.2) (inr (c.in_err-verdicts.ensures.no_decision input ga).cause)

pub returns-in_err-verdicts-clause-unwritten : goal.returns-in_err-verdicts-clause-unwritten
returns-in_err-verdicts-clause-unwritten g c = λ input ga.
    let e = err_from_is_err_and c.from_residual.result c.from_residual.ensures.1 in
    rw (e.1, e.2) (λ w. let same : c.in_err-verdicts.field-0.0 ≡ Write = cc in (c.in_err-verdicts.ensures.no_decision input ga).unwritten same)

-- ---- no memory for the text, or for the VCD

pub returns-in_err-report-clause-answer : goal.returns-in_err-report-clause-answer
returns-in_err-report-clause-answer g c = λ input ga.
    let e = err_from_is_err_and c.from_residual-in_err-report.result c.from_residual-in_err-report.ensures.1 in
    rw (e.1, e.2) tt

pub returns-in_err-report-clause-fault : goal.returns-in_err-report-clause-fault
returns-in_err-report-clause-fault g c = λ input ga.
    let e = err_from_is_err_and c.from_residual-in_err-report.result c.from_residual-in_err-report.ensures.1 in
    rw (e.1, e.2) (inr (found_accepted _ _ _ _ _ (c.in_ok-verdicts.ensures.decision input ga).found_by))

pub returns-in_err-vcd-clause-answer : goal.returns-in_err-vcd-clause-answer
returns-in_err-vcd-clause-answer g c = λ input ga.
    let e = err_from_is_err_and c.from_residual-in_err-vcd.result c.from_residual-in_err-vcd.ensures.1 in
    rw (e.1, e.2) tt

pub returns-in_err-vcd-clause-fault : goal.returns-in_err-vcd-clause-fault
returns-in_err-vcd-clause-fault g c = λ input ga.
    let e = err_from_is_err_and c.from_residual-in_err-vcd.result c.from_residual-in_err-vcd.ensures.1 in
    rw (e.1, e.2) (inr (found_accepted _ _ _ _ _ (c.in_ok-verdicts.ensures.decision input ga).found_by))
