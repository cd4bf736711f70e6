use Rattle.std.proofs.Common.{◌∙◌, [], ap, arith, false, inl, inr, subst, sym}
use Rattle.check_tool.specs.Ending.{IsSaidOf, Written}
use Rattle.check_tool.specs.Faults.{fault_status}
use Rattle.check_tool.specs.Opening.{Extends}
use Rattle.check_tool.specs.Saving.{saves_of}
use Rattle.check_tool.proofs.Composing.{code_of}
use Rattle.check_tool.proofs.Unsaved.{grows_none, none_opened}
use Rattle.check_tool.proofs.tool.finish.Goals as goal

pub returns-in-Ok-clause-ending : goal.returns-in-Ok-clause-ending
returns-in-Ok-clause-ending g c = inl (record {
  unopened = grows_none _ _ c.save.ensures.unopened;
  saved_all = c.in-Ok.ensures.saved;
  said = c.say_done.ensures.said;
  code = c.status_of_done.ensures.status;
})

pub returns-in-Err-clause-ending : goal.returns-in-Err-clause-ending
returns-in-Err-clause-ending g c =
    let tries = g.F.Folder.tries in
    let saves = g.F.Folder.saves in
    let before = c.args.folder.now in
    let between = c.save.new.folder in
    let after = c.refuse_run.new.folder in
    let o = c.args.options.now in
    let fault = c.in-Err.fault in
    let cause = c.in-Err.ensures.fault in
    let again = c.refuse_run.ensures.tried in
    let w : Written = record { held = g.E.Sink.contents c.args.errors.now; holds = g.E.Sink.contents c.refuse_run.new.errors; has_failed = g.E.Sink.has_failed c.refuse_run.new.errors; has_stopped = g.E.Sink.has_stopped c.refuse_run.new.errors } in
    inr (
      fault,
      record {
        unopened = none_opened o cause.obstacle fault cause.is (tries before) (tries between) (tries after) [] again.0 (grows_none (tries before) (tries between) c.save.ensures.unopened) again.1 again.2;
        saved_part = subst (λ s. Extends (saves before) s (saves_of o c.args.done.now false)) (sym c.refuse_run.ensures.unsaved) c.in-Err.ensures.saved;
        cause = cause;
        line = subst (λ t. IsSaidOf t o w fault c.refuse_run.result) c.save.ensures.files_unchanged c.refuse_run.ensures.said;
      },
    )

pub returns-in-Err-clause-reported : goal.returns-in-Err-clause-reported
returns-in-Err-clause-reported g c two =
    let after = c.refuse_run.new.errors in
    let w : Written = record { held = g.E.Sink.contents c.args.errors.now; holds = g.E.Sink.contents after; has_failed = g.E.Sink.has_failed after; has_stopped = g.E.Sink.has_stopped after } in
    let code = code_of (g.F.Folder.bytes_at c.save.new.folder) c.args.options.now w c.in-Err.fault c.refuse_run.result c.refuse_run.ensures.said in
    let three = sym two ∙ code ∙ ap fault_status c.in-Err.ensures.fault.is in
    absurd (omega (arith, three))
