use Rattle.std.proofs.Common.{drop}
use Rattle.std.proofs.lemmas.List.{get_or_default}
use Rattle.wave_core.specs.Step.{IsFinished}
use Rattle.wave_core.specs.Cores.{core_wave, core_state}
use Rattle.wave_core.proofs.Drives.{chosen, chosen_all, same_then, of_true, of_false}
use Rattle.wave_core.proofs.Stepped.{reaches_more}
use Rattle.wave_core.proofs.waves.Core.choose.Goals as goal

pub returns-then-finished-clause-ok : goal.returns-then-finished-clause-ok
returns-then-finished-clause-ok c =
    let x = c.loop-choice.self in
    chosen_all c.args.self.now x c.args.choices.now (drop c.loop-choice.choice-index c.args.choices.now) c.loop-choice.invariant.same
    (of_true c.finished.result (IsFinished (core_wave x) (core_state x)) (¬ IsFinished (core_wave x) (core_state x)) c.if-finished.true c.finished.ensures.value) c.loop-choice.invariant.drives

pub loop-choice-preserved : goal.loop-choice-preserved
loop-choice-preserved c =
    let v = c.args.self.now in
    let x = c.loop-choice.self in
    let open' = of_false c.finished.result (IsFinished (core_wave x) (core_state x)) (¬ IsFinished (core_wave x) (core_state x)) c.if-finished.false c.finished.ensures.value in
    record {
      same = same_then v x c.step_by_choice.new.self c.loop-choice.invariant.same c.step_by_choice.ensures.same;
      drives = chosen v x c.step_by_choice.new.self c.args.choices.now c.loop-choice.choice-index _ c.loop-choice-test.true (get_or_default c.args.choices.now c.loop-choice.choice-index 0 _ c.loop-choice-test.true) c.loop-choice.invariant.same open' c.in_ok-step_by_choice.ensures.ok c.loop-choice.invariant.drives;
      runs = reaches_more v x c.step_by_choice.new.self _ c.loop-choice.invariant.same c.in_ok-step_by_choice.ensures.ok c.loop-choice.invariant.runs;
    }
