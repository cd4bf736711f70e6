use Rattle.std.proofs.Common.{IfErr, IfOk, IfSome, subst}
use Rattle.std.proofs.lemmas.Result.{err_from_is_err_and}
use Rattle.compare_built.specs.Attempts.{AreGivenUp, last_budget}
use Rattle.compare_built.specs.Devices.{device_text, device_texts}
use Rattle.compare_built.specs.declared.settings.Settings.{Settings}
use Rattle.explain_report.specs.Dumping.{IsReportWithVcd, bytes_in}
use Rattle.explain_report.specs.Explaining.{IsReportFault}
use Rattle.explain_report.proofs.Explaining.{early_report_fault, none_failed_report}
use Rattle.explain_report.proofs.Trying.{some_order}
use Rattle.check_report.specs.Refusals.{MayAnswer}
use Rattle.check_report.proofs.Findings.{before_names, given_of, known_if_err, known_if_ok, targets_of}
use Rattle.check_report.proofs.Refusing.{early}
use Rattle.check_report.proofs.check_run.reported.Goals as goal

pub returns-in_err-netlists-clause-answer : goal.returns-in_err-netlists-clause-answer
returns-in_err-netlists-clause-answer g c =
    let input = device_texts (g.R1.Source.remaining c.args.first.now) (g.R2.Source.remaining c.args.second.now) (device_text g.R3.Source.remaining c.args.given.now) in
    let e = err_from_is_err_and c.from_residual.result c.from_residual.ensures.1 in
    rw (e.1, e.2) (early input c.args.context.now.settings.now (g.G.Monitor.bound c.args.context.now.monitor.now) c.in_err-netlists.field-0.0 c.in_err-netlists.ensures.early)

pub returns-in_err-netlists-clause-fault : goal.returns-in_err-netlists-clause-fault
returns-in_err-netlists-clause-fault g c =
    let s = c.args.context.now.settings.now in
    let o = some_order s.order in
    let e = err_from_is_err_and c.from_residual.result c.from_residual.ensures.1 in
    rw (e.1, e.2) (early_report_fault _ _ _ _ s c.in_err-netlists.field-0.0 o.0 o.1 (c.in_err-netlists.ensures.fault s.order s.matching o.0))

pub returns-in_err-netlists-clause-names_first : goal.returns-in_err-netlists-clause-names_first
returns-in_err-netlists-clause-names_first g c =
    let e = err_from_is_err_and c.from_residual.result c.from_residual.ensures.1 in
    rw (e.1, e.2) (λ after. absurd (before_names c.in_err-netlists.field-0.0 c.in_err-netlists.ensures.early after))

pub returns-clause-names_known : goal.returns-clause-names_known
returns-clause-names_known g c =
    let input = device_texts (g.R1.Source.remaining c.args.first.now) (g.R2.Source.remaining c.args.second.now) (device_text g.R3.Source.remaining c.args.given.now) in
    known_if_ok input c.args.context.now.settings.now.explain.items c.task_report.result
    (λ other. targets_of input _ _ _ _ _ c.task-task.ensures c.in_ok-netlists.ensures.read (c.task_report.ensures.names_first other))

pub returns-clause-names_first : goal.returns-clause-names_first
returns-clause-names_first g c =
    let input = device_texts (g.R1.Source.remaining c.args.first.now) (g.R2.Source.remaining c.args.second.now) (device_text g.R3.Source.remaining c.args.given.now) in
    known_if_err input c.args.context.now.settings.now.explain.items c.task_report.result
    (λ other. targets_of input _ _ _ _ _ c.task-task.ensures c.in_ok-netlists.ensures.read (c.task_report.ensures.names_first other))

pub returns-clause-report : goal.returns-clause-report
returns-clause-report g c =
    let input = device_texts (g.R1.Source.remaining c.args.first.now) (g.R2.Source.remaining c.args.second.now) (device_text g.R3.Source.remaining c.args.given.now) in
    subst (λ (s : Settings). IfOk c.task_report.result (λ r. IsReportWithVcd input s (g.G.Monitor.bound c.args.context.now.monitor.now) r.2 r.1 r.0.report.items (bytes_in r.0.vcd))) c.task-task.ensures.settings
    (c.task_report.ensures.report input (given_of input _ _ _ _ _ c.task-task.ensures c.in_ok-netlists.ensures.read))

pub returns-clause-earlier_given_up : goal.returns-clause-earlier_given_up
returns-clause-earlier_given_up g c =
    let input = device_texts (g.R1.Source.remaining c.args.first.now) (g.R2.Source.remaining c.args.second.now) (device_text g.R3.Source.remaining c.args.given.now) in
    subst (λ (s : Settings). IfOk c.task_report.result (λ r. IfSome r.2 (AreGivenUp input s.matching (last_budget s.order s.limit) (g.G.Monitor.bound c.args.context.now.monitor.now)))) c.task-task.ensures.settings
    (c.task_report.ensures.earlier_given_up input (given_of input _ _ _ _ _ c.task-task.ensures c.in_ok-netlists.ensures.read))

pub returns-clause-answer : goal.returns-clause-answer
returns-clause-answer g c =
    let input = device_texts (g.R1.Source.remaining c.args.first.now) (g.R2.Source.remaining c.args.second.now) (device_text g.R3.Source.remaining c.args.given.now) in
    subst (λ (s : Settings). IfErr c.task_report.result (MayAnswer input s (g.G.Monitor.bound c.args.context.now.monitor.now))) c.task-task.ensures.settings
    (c.task_report.ensures.answer input (given_of input _ _ _ _ _ c.task-task.ensures c.in_ok-netlists.ensures.read))

pub returns-clause-fault : goal.returns-clause-fault
returns-clause-fault g c =
    let input = device_texts (g.R1.Source.remaining c.args.first.now) (g.R2.Source.remaining c.args.second.now) (device_text g.R3.Source.remaining c.args.given.now) in
    none_failed_report input _ _ _ c.args.context.now.settings.now c.task_report.result
    (subst (λ (s : Settings). IfErr c.task_report.result (IsReportFault input ⊥ ⊥ ⊥ s)) c.task-task.ensures.settings (c.task_report.ensures.fault input (given_of input _ _ _ _ _ c.task-task.ensures c.in_ok-netlists.ensures.read)))

pub returns-clause-unwritten : goal.returns-clause-unwritten
returns-clause-unwritten g c =
    let input = device_texts (g.R1.Source.remaining c.args.first.now) (g.R2.Source.remaining c.args.second.now) (device_text g.R3.Source.remaining c.args.given.now) in
    c.task_report.ensures.unwritten input (given_of input _ _ _ _ _ c.task-task.ensures c.in_ok-netlists.ensures.read)
