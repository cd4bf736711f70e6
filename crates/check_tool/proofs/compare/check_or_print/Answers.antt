use Rattle.std.proofs.Common.{◌≡◌, ◌∙◌, Err, ap, false, inr, refl, sym, true}
use Rattle.std.proofs.lemmas.Result.{err_from_is_err_and}
use Rattle.compare_built.specs.Devices.{device_text, device_texts}
use Rattle.check_report.proofs.Refusing.{to_each, to_list}
use Rattle.check_tool.specs.declared.done.Done.TheVariants.{Compared, OrderPrinted}
use Rattle.check_tool.proofs.OptionsToSettings.{earlier_in_bound, given_up_in_bound, none_past, report_in_bound, stopped_in_bound}
use Rattle.check_tool.proofs.compare.check_or_print.Goals as goal

pub returns-then-run-clause-report : goal.returns-then-run-clause-report
returns-then-run-clause-report g c =
    let u = c.in_ok-tried.ensures.order in
    record { bytes = u.0; made = (c.if-run.true, u.1); appended = u.2; earlier_given_up = earlier_in_bound _ _ _ _ _ c.requires.bound _ c.in_ok-tried.ensures.earlier_given_up }

pub returns-in_err-tried-clause-fault : goal.returns-in_err-tried-clause-fault
returns-in_err-tried-clause-fault g c =
    let s = c.args.settings.now in
    let sources = device_texts (g.R1.Source.remaining c.args.first.now) (g.R2.Source.remaining c.args.second.now) (device_text g.R3.Source.remaining c.args.given.now) in
    let check = c.in_err-tried.field-0.0 in
    let has = c.in_err-tried.ensures in
    let each = to_list sources s (g.G.Monitor.bound c.args.run.now.monitor.now) check has.answer in
    let r = err_from_is_err_and c.from_residual.result c.from_residual.ensures.1 in
    rw (r.1, r.2) (record {
      check = check;
      is = refl;
      cause = inr has.fault;
      full = each.full;
      given_up = λ e. given_up_in_bound sources s _ _ c.requires.bound (each.given_up e);
      by_cones = each.by_cones;
      thread_for_named_order = λ e. absurd (each.needs_no_thread e);
      stopped = λ e. stopped_in_bound s _ _ c.requires.bound (each.stopped e);
      only = λ e. absurd (each.no_unknown_name e);
      names_first = λ compared after. absurd (let never : true ≡ false = sym c.if-run.true ∙ compared in cc);
      never_too_many_requests = each.never_too_many_requests;
      front = λ e. let u = has.unwritten (ap Err e) in (OrderPrinted u.0, u.1, (c.if-run.true, u.2), u.3);
    })

pub returns-clause-report : goal.returns-clause-report
returns-clause-report g c =
    let s = c.args.settings.now in
    let sources = device_texts (g.R1.Source.remaining c.args.first.now) (g.R2.Source.remaining c.args.second.now) (device_text g.R3.Source.remaining c.args.given.now) in
    let v = c.in_ok-outcome.ensures.vcd in
    record { bytes = v.0; made = (c.if-run.false, report_in_bound sources s _ _ c.requires.bound _ _ _ _ v.1); appended = v.2; earlier_given_up = earlier_in_bound sources _ _ _ _ c.requires.bound _ c.in_ok-outcome.ensures.earlier_given_up }

pub returns-in_err-outcome-clause-fault : goal.returns-in_err-outcome-clause-fault
returns-in_err-outcome-clause-fault g c =
    let s = c.args.settings.now in
    let sources = device_texts (g.R1.Source.remaining c.args.first.now) (g.R2.Source.remaining c.args.second.now) (device_text g.R3.Source.remaining c.args.given.now) in
    let check = c.in_err-outcome.field-0.0 in
    let has = c.in_err-outcome.ensures in
    let each = to_each sources s (g.G.Monitor.bound c.args.run.now.monitor.now) check has.answer in
    let r = err_from_is_err_and c.from_residual-in_err-outcome.result c.from_residual-in_err-outcome.ensures.1 in
    rw (r.1, r.2) (record {
      check = check;
      is = refl;
      cause = has.fault;
      full = each.full;
      given_up = λ e. given_up_in_bound sources s _ _ c.requires.bound (each.given_up e);
      by_cones = each.by_cones;
      thread_for_named_order = λ e. (c.if-run.false, each.thread_for_named_order e);
      stopped = λ e. stopped_in_bound s _ _ c.requires.bound (each.stopped e);
      only = each.only;
      names_first = λ compared after. has.names_first after;
      never_too_many_requests = λ e. none_past _ _ _ c.requires.bound refl (each.past e).2;
      front = λ e. let u = has.unwritten (ap Err e) in (Compared u.0 u.1 u.3, u.2, (c.if-run.false, report_in_bound sources s _ _ c.requires.bound _ _ _ _ u.4), u.5);
    })
