use Rattle.wave_core.specs.Step.{IsFinished}
use Rattle.wave_core.specs.Cores.{core_wave, core_state}
use Rattle.wave_core.proofs.Drives.{finishes, finished_now, same_then, of_true, of_false}
use Rattle.wave_core.proofs.Stepped.{reaches_more}
use Rattle.wave_core.proofs.waves.Core.finish.Goals as goal

pub loop-self-preserved : goal.loop-self-preserved
loop-self-preserved c =
    let v = c.args.self.now in
    let x = c.loop-self.self in
    let open' = of_false c.finished.result (IsFinished (core_wave x) (core_state x)) (¬ IsFinished (core_wave x) (core_state x)) c.loop-self-test.true c.finished.ensures.value in
    record {
      same = same_then v x c.step_by_choice.new.self c.loop-self.invariant.same c.step_by_choice.ensures.same;
      drives = finishes v x c.step_by_choice.new.self c.loop-self.invariant.same open' c.in_ok-step_by_choice.ensures.ok c.loop-self.invariant.drives;
      runs = reaches_more v x c.step_by_choice.new.self 0 c.loop-self.invariant.same c.in_ok-step_by_choice.ensures.ok c.loop-self.invariant.runs;
    }

pub returns-clause-ok : goal.returns-clause-ok
returns-clause-ok c =
    let x = c.loop-self.self in
    finished_now c.args.self.now x c.loop-self.invariant.same (of_true c.finished.result (IsFinished (core_wave x) (core_state x)) (¬ IsFinished (core_wave x) (core_state x)) c.loop-self-test.false c.finished.ensures.value) c.loop-self.invariant.drives
