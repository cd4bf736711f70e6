use Rattle.std.proofs.Common.{◌≡◌, ◌≢◌, ◌∙◌, ◌⊎◌, ap, sym, subst, inr, Result, Ok, Err, OnErr, arith}
use Rattle.std.specs.Io.KnownBytes.{Keeps}
use Rattle.std.specs.Prelude.{is_some}
use Rattle.check_tool.specs.declared.done.Done.{Done}
use Rattle.compare_built.specs.declared.fault.CheckFault.TheVariants.{Write}
use Rattle.check_tool.specs.declared.fault.ToolFault.{ToolFault}
use Rattle.check_tool.specs.declared.fault.ToolFault.TheVariants.{Check, OutOfMemory}
use Rattle.check_tool.specs.Ending.{DeviceState, FailsToSave, Finishes, IsSaidOf, RunEffects, Written, written_from, run_effects_of, says_more, undecided_of, written}
use Rattle.check_tool.specs.Opening.{HasFailedAt}
use Rattle.check_tool.specs.Faults.{fault_status}
use Rattle.check_tool.proofs.Composing.{keeps_own, code_of, extends_more}
use Rattle.check_tool.proofs.Unsaved.{grows_none}
use Rattle.check_tool.proofs.Finishing.{ended, not_asked, undecided_or}
use Rattle.check_tool.proofs.tool.run_with_options.Goals as goal

-- the fault of a result that is one
abbrev fault_in : Result Done ToolFault → ToolFault
fault_in (Ok done) = OutOfMemory
fault_in (Err fault) = fault

pub returns-in-Ok-clause-ending : goal.returns-in-Ok-clause-ending
returns-in-Ok-clause-ending g c =
    let o = c.args.options.now in
    let before = c.args.folder.now in
    let between = c.run_options.new.folder in
    let after = c.finish.new.folder in
    let ran = c.in-Ok.ensures in
    let errors = c.run_options.new.errors in
    let effects : RunEffects = run_effects_of (g.E.TerminalSink.on_terminal c.args.errors.now) g.F.Folder.bytes_at g.F.Folder.tries g.F.Folder.saves before after g.R.Source.remaining g.R.Source.has_failed c.args.input.now c.run_options.new.input
    (written g.W.Sink.contents g.W.Sink.has_failed g.W.Sink.has_stopped c.args.out.now c.run_options.new.out) (written g.E.Sink.contents g.E.Sink.has_failed g.E.Sink.has_stopped c.args.errors.now c.finish.new.errors) in
    let b : DeviceState = record { holds = g.E.Sink.contents errors; has_failed = g.E.Sink.has_failed errors; has_stopped = g.E.Sink.has_stopped errors } in
    let end = subst (λ t. Finishes o c.cause-cause.result c.in-Ok.done (g.F.Folder.tries between) (g.F.Folder.tries after) (g.F.Folder.saves between) (g.F.Folder.saves after) (written_from effects.errors b) c.finish.result
    ⊎ ((fault : ToolFault) × FailsToSave t o c.in-Ok.done (g.F.Folder.tries between) (g.F.Folder.tries after) (g.F.Folder.saves between) (g.F.Folder.saves after) (written_from effects.errors b) fault c.finish.result)) c.run_options.ensures.files_unchanged c.finish.ensures.ending in
    ended (HasFailedAt g.F.File.Source.origin g.F.File.Source.has_failed) effects o c.cause-cause.result (λ e. sym c.is_some.ensures ∙ c.cause-cause.ensures e) c.in-Ok.done (g.F.Folder.tries between) (g.F.Folder.saves between) b c.finish.result ran.report ran.opened ran.earlier_given_up c.run_options.ensures.unsaved c.run_options.ensures.progress end

pub returns-clause-ending : goal.returns-clause-ending
returns-clause-ending g c =
    let cause = c.in-Err.ensures.fault in
    let again = c.refuse_run.ensures.tried in
    let between = c.run_options.new.errors in
    let after = c.refuse_run.new.errors in
    let said : Written = record { held = g.E.Sink.contents between; holds = g.E.Sink.contents after; has_failed = g.E.Sink.has_failed after; has_stopped = g.E.Sink.has_stopped after } in
    inr (inr (
      c.in-Err.fault,
      record {
        tries = cause.0;
        again = again.0;
        tried = extends_more (g.F.Folder.tries c.args.folder.now) (g.F.Folder.tries c.run_options.new.folder) (g.F.Folder.tries c.refuse_run.new.folder) cause.0 again.0 cause.1 again.1;
        once_more = again.2;
        cause = cause.2;
        may = c.in-Err.ensures.may;
        names_first = c.in-Err.ensures.names_first;
        line = (
          record { holds = g.E.Sink.contents c.run_options.new.errors; has_failed = g.E.Sink.has_failed c.run_options.new.errors; has_stopped = g.E.Sink.has_stopped c.run_options.new.errors },
          c.run_options.ensures.progress,
          subst (λ t. IsSaidOf t c.args.options.now said c.in-Err.fault c.refuse_run.result) c.run_options.ensures.files_unchanged c.refuse_run.ensures.said,
        );
        front = λ e. c.run_options.ensures.unwritten (c.in-Err.is ∙ ap Err e);
        nothing = λ other.
            let same = subst (λ r. OnErr r (r ≢ Err (Check Write) → c.run_options.new.out ≡ c.args.out.now)) c.in-Err.is c.run_options.ensures.untouched (λ e. other (ap fault_in e)) in
            subst (λ w. Keeps (g.W.Sink.contents c.args.out.now) (g.W.Sink.contents w)) (sym same) (keeps_own (g.W.Sink.contents c.args.out.now));
        unsaved = grows_none (g.F.Folder.saves c.args.folder.now) (g.F.Folder.saves c.refuse_run.new.folder) (c.refuse_run.ensures.unsaved ∙ c.run_options.ensures.unsaved);
      },
    ))

pub returns-clause-untouched : goal.returns-clause-untouched
returns-clause-untouched g c two =
    let after = c.refuse_run.new.errors in
    let said : Written = record {
      held = g.E.Sink.contents c.run_options.new.errors;
      holds = g.E.Sink.contents after;
      has_failed = g.E.Sink.has_failed after;
      has_stopped = g.E.Sink.has_stopped after;
    } in
    let code = code_of (g.F.Folder.bytes_at c.run_options.new.folder) c.args.options.now said c.in-Err.fault c.refuse_run.result c.refuse_run.ensures.said in
    subst (λ r. OnErr r (r ≢ Err (Check Write) → c.run_options.new.out ≡ c.args.out.now)) c.in-Err.is c.run_options.ensures.untouched (
    λ e. let three = sym two ∙ code ∙ ap (λ r. fault_status (fault_in r)) e in absurd (omega (arith, three))
    )

pub returns-in-Ok-clause-silent : goal.returns-in-Ok-clause-silent
returns-in-Ok-clause-silent g c = λ e low.
    undecided_or (undecided_of c.in-Ok.done) (λ some. (c.in-Ok.done, c.in-Ok.ensures.report, some))
    (λ none. c.finish.ensures.silent (not_asked c.args.options.now.verbose (is_some c.args.options.now.seconds) (not_asked (says_more c.args.options.now) (g.E.TerminalSink.on_terminal c.args.errors.now) e)) none low ∙ c.run_options.ensures.silent e)

pub returns-clause-silent : goal.returns-clause-silent
returns-clause-silent g c = λ e low. absurd (omega (arith, low, c.refuse_run.ensures.refused))
