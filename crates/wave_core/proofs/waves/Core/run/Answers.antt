use Rattle.std.proofs.Common.{take, get_or, sym, subst, arith}
use Rattle.std.proofs.lemmas.List.{take_more}
use Rattle.std.proofs.lemmas.Result.{err_from_is_err_and}
use Rattle.wave_core.specs.declared.Event.TheVariants.{Send}
use Rattle.wave_core.specs.Step.{IsRun}
use Rattle.wave_core.specs.Cores.{core_wave, core_state}
use Rattle.wave_core.proofs.Drives.{same_then}
use Rattle.wave_core.proofs.Stepped.{core_run_more, stopped_at}
use Rattle.wave_core.proofs.waves.Core.run.Goals as goal

pub returns-in_err-step-clause-refused : goal.returns-in_err-step-clause-refused
returns-in_err-step-clause-refused c =
    let p = err_from_is_err_and c.from_residual.result c.from_residual.ensures.1 in
    rw (p.1, p.2) (stopped_at c.args.self.now c.loop-event.self c.step.new.self c.args.events.now c.loop-event.event-index _ c.loop-event-test.true c.loop-event.invariant.same c.loop-event.invariant.runs c.loop-event.invariant.counts c.in_err-step.ensures.unchanged c.in_err-step.ensures.refused)

pub loop-event-preserved : goal.loop-event-preserved
loop-event-preserved c =
    let v = c.args.self.now in
    let x = c.loop-event.self in
    let y = c.step.new.self in
    let i = c.loop-event.event-index in
    let more = core_run_more v x y (take i c.args.events.now) (get_or c.args.events.now i (Send 0 0)) c.loop-event.invariant.same c.loop-event.invariant.runs c.in_ok-step.ensures.ok in
    record {
      same = same_then v x y c.loop-event.invariant.same c.step.ensures.same;
      counts = let one = c.in_ok-step.ensures.counts in let before = c.loop-event.invariant.counts in omega (arith, one, before);
      runs = subst (λ es. IsRun (core_wave v) (core_state v) es (core_state y)) (sym (take_more c.args.events.now i (Send 0 0) c.loop-event-test.true)) more;
    }
