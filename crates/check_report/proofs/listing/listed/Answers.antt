use Rattle.std.proofs.Common.{IfErr, IfOk, IfSome, subst}
use Rattle.std.proofs.lemmas.Result.{err_from_is_err_and}
use Rattle.compare_built.specs.Attempts.{AreGivenUp, last_budget}
use Rattle.compare_built.specs.Devices.{device_text, device_texts}
use Rattle.compare_built.specs.declared.settings.Settings.{Settings}
use Rattle.explain_report.proofs.Trying.{none_failed_in, some_order}
use Rattle.check_report.specs.Decisions.{HasCause}
use Rattle.check_report.specs.Listing.{IsListing}
use Rattle.check_report.specs.Refusals.{MayList}
use Rattle.check_report.proofs.Findings.{given_of}
use Rattle.check_report.proofs.Refusing.{list_early}
use Rattle.check_report.proofs.listing.listed.Goals as goal

pub returns-in_err-netlists-clause-answer : goal.returns-in_err-netlists-clause-answer
returns-in_err-netlists-clause-answer g c =
    let input = device_texts (g.R1.Source.remaining c.args.first.now) (g.R2.Source.remaining c.args.second.now) (device_text g.R3.Source.remaining c.args.given.now) in
    let e = err_from_is_err_and c.from_residual.result c.from_residual.ensures.1 in
    rw (e.1, e.2) (list_early input c.args.context.now.settings.now (g.G.Monitor.bound c.args.context.now.monitor.now) c.in_err-netlists.field-0.0 c.in_err-netlists.ensures.early)

pub returns-in_err-netlists-clause-fault : goal.returns-in_err-netlists-clause-fault
returns-in_err-netlists-clause-fault g c =
    let s = c.args.context.now.settings.now in
    let o = some_order s.order in
    let e = err_from_is_err_and c.from_residual.result c.from_residual.ensures.1 in
    rw (e.1, e.2) (o.0, o.1, c.in_err-netlists.ensures.fault s.order s.matching o.0)

pub returns-clause-text : goal.returns-clause-text
returns-clause-text g c =
    let input = device_texts (g.R1.Source.remaining c.args.first.now) (g.R2.Source.remaining c.args.second.now) (device_text g.R3.Source.remaining c.args.given.now) in
    subst (λ (s : Settings). IfOk c.text_for.result (λ r. IsListing input s r.1 r.0.items)) c.task-task.ensures.settings
    (c.text_for.ensures.text input (given_of input _ _ _ _ _ c.task-task.ensures c.in_ok-netlists.ensures.read))

pub returns-clause-earlier_given_up : goal.returns-clause-earlier_given_up
returns-clause-earlier_given_up g c =
    let input = device_texts (g.R1.Source.remaining c.args.first.now) (g.R2.Source.remaining c.args.second.now) (device_text g.R3.Source.remaining c.args.given.now) in
    subst (λ (s : Settings). IfOk c.text_for.result (λ r. IfSome r.1 (AreGivenUp input s.matching (last_budget s.order s.limit) (g.G.Monitor.bound c.args.context.now.monitor.now)))) c.task-task.ensures.settings
    (c.text_for.ensures.earlier_given_up input (given_of input _ _ _ _ _ c.task-task.ensures c.in_ok-netlists.ensures.read))

pub returns-clause-answer : goal.returns-clause-answer
returns-clause-answer g c =
    let input = device_texts (g.R1.Source.remaining c.args.first.now) (g.R2.Source.remaining c.args.second.now) (device_text g.R3.Source.remaining c.args.given.now) in
    subst (λ (s : Settings). IfErr c.text_for.result (MayList input s (g.G.Monitor.bound c.args.context.now.monitor.now))) c.task-task.ensures.settings
    (c.text_for.ensures.answer input (given_of input _ _ _ _ _ c.task-task.ensures c.in_ok-netlists.ensures.read))

pub returns-clause-fault : goal.returns-clause-fault
returns-clause-fault g c =
    let input = device_texts (g.R1.Source.remaining c.args.first.now) (g.R2.Source.remaining c.args.second.now) (device_text g.R3.Source.remaining c.args.given.now) in
    none_failed_in input _ _ _ c.args.context.now.settings.now.matching c.args.context.now.settings.now.order c.text_for.result
    (subst (λ (s : Settings). IfErr c.text_for.result (HasCause input ⊥ ⊥ ⊥ s)) c.task-task.ensures.settings (c.text_for.ensures.fault input (given_of input _ _ _ _ _ c.task-task.ensures c.in_ok-netlists.ensures.read)))
