use Rattle.std.proofs.Common.{IfErr, IfOk, subst}
use Rattle.std.proofs.lemmas.Result.{err_from_is_err_and}
use Rattle.compare_built.specs.Findings.{found_of}
use Rattle.compare_built.specs.Devices.{device_text, device_texts}
use Rattle.compare_built.specs.declared.settings.Settings.{Settings}
use Rattle.explain_report.proofs.Trying.{some_order}
use Rattle.check_report.specs.Decisions.{IsDecision, IsNoDecision}
use Rattle.check_report.proofs.Findings.{given_of, none_failed_decision}
use Rattle.check_report.proofs.Refusing.{early, early_unwritten}
use Rattle.check_report.proofs.check_run.judge.Goals as goal

pub returns-in_err-netlists-clause-no_decision : goal.returns-in_err-netlists-clause-no_decision
returns-in_err-netlists-clause-no_decision g c =
    let input = device_texts (g.R1.Source.remaining c.args.first.now) (g.R2.Source.remaining c.args.second.now) (device_text g.R3.Source.remaining c.args.given.now) in
    let s = c.args.context.now.settings.now in
    let o = some_order s.order in
    let fault = c.in_err-netlists.field-0.0 in
    let has = c.in_err-netlists.ensures in
    let e = err_from_is_err_and c.from_residual.result c.from_residual.ensures.1 in
    rw (e.1, e.2) (record {
      cause = (o.0, o.1, has.fault s.order s.matching o.0);
      answer = early input s (g.G.Monitor.bound c.args.context.now.monitor.now) fault has.early;
      unwritten = early_unwritten fault has.early;
    })

pub returns-clause-decision : goal.returns-clause-decision
returns-clause-decision g c =
    let input = device_texts (g.R1.Source.remaining c.args.first.now) (g.R2.Source.remaining c.args.second.now) (device_text g.R3.Source.remaining c.args.given.now) in
    subst (λ (s : Settings). IfOk c.decide.result (λ r. IsDecision input s (g.G.Monitor.bound c.args.context.now.monitor.now) (found_of r.0) r.1)) c.task-task.ensures.settings
    (c.decide.ensures.decision input (given_of input _ _ _ _ _ c.task-task.ensures c.in_ok-netlists.ensures.read))

pub returns-clause-no_decision : goal.returns-clause-no_decision
returns-clause-no_decision g c =
    let input = device_texts (g.R1.Source.remaining c.args.first.now) (g.R2.Source.remaining c.args.second.now) (device_text g.R3.Source.remaining c.args.given.now) in
    none_failed_decision input c.args.context.now.settings.now (g.G.Monitor.bound c.args.context.now.monitor.now) _ _ _ c.decide.result
    (subst (λ (s : Settings). IfErr c.decide.result (IsNoDecision input ⊥ ⊥ ⊥ s (g.G.Monitor.bound c.args.context.now.monitor.now))) c.task-task.ensures.settings (c.decide.ensures.no_decision input (given_of input _ _ _ _ _ c.task-task.ensures c.in_ok-netlists.ensures.read)))
