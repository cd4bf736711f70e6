use Rattle.std.proofs.Common.{subst, ◌≡◌, ◌∙◌, ap}
use Rattle.std.proofs.lemmas.Result.{err_from_is_err_and}
use Rattle.net_names.specs.OrderText.{order_text}
use Rattle.compare_built.specs.Findings.{found_of}
use Rattle.compare_built.specs.declared.fault.CheckFault.TheVariants.{Write}
use Rattle.explain_report.proofs.Trying.{found_accepted}
use Rattle.check_report.proofs.Printing.{best_printed}
use Rattle.check_report.proofs.Refusing.{of_search}
use Rattle.order_search.specs.Trials.{EndsSearch}
use Rattle.check_report.proofs.ordering.best_text.Goals as goal

pub returns-clause-text : goal.returns-clause-text
returns-clause-text g c = λ input ga.
    best_printed input c.args.task.now.settings.now (g.G.Monitor.bound c.args.monitor.now) (found_of c.in_ok-verdicts.verdicts) c.in_ok-verdicts.tried c.in_ok-text.text.items c.requires.best
    (c.in_ok-verdicts.ensures.decision input ga).found_by (c.in_ok-text.ensures ∙ ap order_text c.variables.ensures)

pub returns-clause-earlier_given_up : goal.returns-clause-earlier_given_up
returns-clause-earlier_given_up g c = λ input ga. (c.in_ok-verdicts.ensures.decision input ga).earlier_given_up

pub returns-in_err-verdicts-clause-answer : goal.returns-in_err-verdicts-clause-answer
returns-in_err-verdicts-clause-answer g c = λ input ga.
    let e = err_from_is_err_and c.from_residual.result c.from_residual.ensures.1 in
    rw (e.1, e.2)
    (of_search input c.args.task.now.settings.now (g.G.Monitor.bound c.args.monitor.now) c.in_err-verdicts.field-0.0 c.in_err-verdicts.ensures.ends (c.in_err-verdicts.ensures.no_decision input ga).answer)

pub returns-in_err-verdicts-clause-fault : goal.returns-in_err-verdicts-clause-fault
returns-in_err-verdicts-clause-fault g c = λ input ga.
    let e = err_from_is_err_and c.from_residual.result c.from_residual.ensures.1 in
    rw (e.1, e.2) (c.in_err-verdicts.ensures.no_decision input ga).cause

pub returns-in_err-verdicts-clause-unwritten : goal.returns-in_err-verdicts-clause-unwritten
returns-in_err-verdicts-clause-unwritten g c =
    let e = err_from_is_err_and c.from_residual.result c.from_residual.ensures.1 in
    rw (e.1, e.2) (λ w. let same : c.in_err-verdicts.field-0.0 ≡ Write = cc in subst EndsSearch same c.in_err-verdicts.ensures.ends)

pub returns-in_err-text-clause-answer : goal.returns-in_err-text-clause-answer
returns-in_err-text-clause-answer g c = λ input ga.
    let e = err_from_is_err_and c.from_residual-in_err-text.result c.from_residual-in_err-text.ensures.1 in
    rw (e.1, e.2) tt

pub returns-in_err-text-clause-fault : goal.returns-in_err-text-clause-fault
returns-in_err-text-clause-fault g c = λ input ga.
    let e = err_from_is_err_and c.from_residual-in_err-text.result c.from_residual-in_err-text.ensures.1 in
    rw (e.1, e.2) (found_accepted input c.args.task.now.settings.now (g.G.Monitor.bound c.args.monitor.now) (found_of c.in_ok-verdicts.verdicts) c.in_ok-verdicts.tried (c.in_ok-verdicts.ensures.decision input ga).found_by)
