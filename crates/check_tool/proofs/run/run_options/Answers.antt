use Rattle.check_tool.proofs.Comparing.{run_earlier_given_up, run_fault, run_front, run_may, run_names_first, run_opened, run_report}
use Rattle.check_tool.proofs.Finishing.{nothing_more, shows_then, silent_progress}
use Rattle.check_tool.proofs.run.run_options.Goals as goal

-- ---- no progress is printed

pub returns-in_default-clause-silent : goal.returns-in_default-clause-silent
returns-in_default-clause-silent g c = λ none. c.say_if_stopped.ensures.silent (nothing_more c.args.plan.now.options.now (g.E.TerminalSink.on_terminal c.args.errors.now) none).1

pub returns-in_default-clause-progress : goal.returns-in_default-clause-progress
returns-in_default-clause-progress g c =
    silent_progress c.args.plan.now.options.now (g.E.TerminalSink.on_terminal c.args.errors.now) g.E.Sink.contents g.E.Sink.has_failed g.E.Sink.has_stopped c.args.errors.now c.say_if_stopped.new.errors
    (λ none. c.say_if_stopped.ensures.silent (nothing_more c.args.plan.now.options.now (g.E.TerminalSink.on_terminal c.args.errors.now) none).1)

-- ---- progress may be printed

pub returns-clause-silent : goal.returns-clause-silent
returns-clause-silent g c = λ none. absurd (shows_then c.args.plan.now.options.now (g.E.TerminalSink.on_terminal c.args.errors.now) c.form_on.result c.in-Some.form c.in-Some.is c.form_on.ensures none)

pub returns-clause-progress : goal.returns-clause-progress
returns-clause-progress g c =
    silent_progress c.args.plan.now.options.now (g.E.TerminalSink.on_terminal c.args.errors.now) g.E.Sink.contents g.E.Sink.has_failed g.E.Sink.has_stopped c.args.errors.now _
    (λ none. absurd (shows_then c.args.plan.now.options.now (g.E.TerminalSink.on_terminal c.args.errors.now) c.form_on.result c.in-Some.form c.in-Some.is c.form_on.ensures none))

-- ---- the result of the run

pub returns-in_default-clause-report : goal.returns-in_default-clause-report
returns-in_default-clause-report g c = run_report _ _ _ _ _ _ c.run_by-result.result c.run_by-result.ensures.report

pub returns-in_default-clause-opened : goal.returns-in_default-clause-opened
returns-in_default-clause-opened g c = run_opened _ _ _ _ _ _ c.run_by-result.result c.run_by-result.ensures.report

pub returns-in_default-clause-earlier_given_up : goal.returns-in_default-clause-earlier_given_up
returns-in_default-clause-earlier_given_up g c = run_earlier_given_up _ _ _ _ _ _ c.run_by-result.result c.run_by-result.ensures.report

pub returns-in_default-clause-fault : goal.returns-in_default-clause-fault
returns-in_default-clause-fault g c = run_fault _ _ _ _ _ _ _ _ c.run_by-result.result c.run_by-result.ensures.fault

pub returns-in_default-clause-may : goal.returns-in_default-clause-may
returns-in_default-clause-may g c = run_may _ _ _ _ _ _ _ _ c.run_by-result.result c.run_by-result.ensures.fault

pub returns-in_default-clause-names_first : goal.returns-in_default-clause-names_first
returns-in_default-clause-names_first g c = run_names_first _ _ _ _ _ _ _ _ c.run_by-result.result c.run_by-result.ensures.fault

pub returns-in_default-clause-unwritten : goal.returns-in_default-clause-unwritten
returns-in_default-clause-unwritten g c = run_front _ _ _ _ _ _ _ _ c.run_by-result.result c.run_by-result.ensures.fault

pub returns-clause-report : goal.returns-clause-report
returns-clause-report g c = run_report _ _ _ _ _ _ c.run_by-ended.result c.run_by-ended.ensures.report

pub returns-clause-opened : goal.returns-clause-opened
returns-clause-opened g c = run_opened _ _ _ _ _ _ c.run_by-ended.result c.run_by-ended.ensures.report

pub returns-clause-earlier_given_up : goal.returns-clause-earlier_given_up
returns-clause-earlier_given_up g c = run_earlier_given_up _ _ _ _ _ _ c.run_by-ended.result c.run_by-ended.ensures.report

pub returns-clause-fault : goal.returns-clause-fault
returns-clause-fault g c = run_fault _ _ _ _ _ _ _ _ c.run_by-ended.result c.run_by-ended.ensures.fault

pub returns-clause-may : goal.returns-clause-may
returns-clause-may g c = run_may _ _ _ _ _ _ _ _ c.run_by-ended.result c.run_by-ended.ensures.fault

pub returns-clause-names_first : goal.returns-clause-names_first
returns-clause-names_first g c = run_names_first _ _ _ _ _ _ _ _ c.run_by-ended.result c.run_by-ended.ensures.fault

pub returns-clause-unwritten : goal.returns-clause-unwritten
returns-clause-unwritten g c = run_front _ _ _ _ _ _ _ _ c.run_by-ended.result c.run_by-ended.ensures.fault
