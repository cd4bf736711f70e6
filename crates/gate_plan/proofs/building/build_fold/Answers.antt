use Rattle.std.proofs.Common.{rules, arith, ◌∙◌, ◌≡◌, ◌+◌, ◌<◌, length, get_or, sym, refl, [], map, Err}
use Rattle.std.proofs.lemmas.Result.{err_from_is_err_and}
use Rattle.std.proofs.lemmas.List.{length-set}
use Rattle.gate_plan.specs.Building.{input_level, levelled_of, AreFolded}
use Rattle.gate_plan.specs.Needing.{IsPlannedValue}
use Rattle.gate_plan.specs.Plans.{plan_steps}
use Rattle.gate_plan.specs.Asking.{IsPast}
use Rattle.gate_plan.proofs.Asked.{wave_unasked, wave_held, wave_past}
use Rattle.gate_plan.proofs.Narrow.{by_held, wave_narrow}
use Rattle.expand_work.specs.Bounds.{most_of}
use Rattle.expand_work.specs.declared.fault.WaveFault.TheVariants.{TooManyRequests}
use Rattle.wave_engine.proofs.Probing.{fault_of_all}
use Rattle.gate_plan.proofs.Counted.{wave_adds, wave_fault}
use Rattle.gate_plan.proofs.Running.{steps_fit, fold_next, all_entries, all_asked}
use Rattle.gate_plan.proofs.Together.{refs_there, there_at, set_left, set_each, answers_long, answers_own, answers_rest}
use Rattle.gate_plan.proofs.building.build_fold.Goals as goal

pub entries_of-requires-clause-below : goal.entries_of-requires-clause-below
entries_of-requires-clause-below g c = (
  c.requires.folded.0,
  λ k one refs lt at there.
      steps_fit one.net (c.requires.plans one (k, lt, at)).sound (input_level one) c.args.store.now refs refs c.args.rank c.args.fold (plan_steps one.net one.net.gates c.args.rank c.args.fold)
      (c.requires.folded.1 k one refs lt at there) refl refl,
)

pub wave_counting_all-requires-clause-operands : goal.wave_counting_all-requires-clause-operands
wave_counting_all-requires-clause-operands g c κs within =
    all_entries c.args.sides.now c.args.store.now c.args.built.now c.args.rank c.args.fold c.as_slice.result.now c.requires.folded (c.as_slice.ensures.value ∙ c.in-Ok.ensures)

pub returns-in_err-answers-clause-adds : goal.returns-in_err-answers-clause-adds
returns-in_err-answers-clause-adds g c =
    wave_adds c.args.store.now c.wave_counting_all.new.store c.as_slice.result.now (IsPlannedValue c.args.store.now.levels c.args.sides.now)
    (all_asked c.args.sides.now c.requires.plans c.args.store.now c.args.built.now c.args.rank c.args.fold c.as_slice.result.now c.requires.folded (c.as_slice.ensures.value ∙ c.in-Ok.ensures)) c.wave_counting_all.ensures.wave.wave.adds

pub returns-in_err-answers-clause-fault : goal.returns-in_err-answers-clause-fault
returns-in_err-answers-clause-fault g c =
    let p = err_from_is_err_and c.from_residual.result c.from_residual.ensures.1 in
    rw (p.1, p.2) (
    wave_fault c.args.store.now c.wave_counting_all.new.store c.as_slice.result.now (IsPlannedValue c.args.store.now.levels c.args.sides.now)
    (all_asked c.args.sides.now c.requires.plans c.args.store.now c.args.built.now c.args.rank c.args.fold c.as_slice.result.now c.requires.folded (c.as_slice.ensures.value ∙ c.in-Ok.ensures))
    c.wave_counting_all.ensures.wave.wave.adds.keeps _ (fault_of_all c.args.store.now c.wave_counting_all.new.store c.in_err-answers.ensures.wave.held c.as_slice.result.now _ c.in_err-answers.ensures.wave.wave.fault)
    )

pub steps-steps-requires-clause-plan : goal.steps-steps-requires-clause-plan
steps-steps-requires-clause-plan g c = c.requires.plans c.index-sides-i.result (c.loop-i.i, omega arith, sym c.index-sides-i.is)

pub split_at-requires : goal.split_at-requires
split_at-requires g c =
    let n = c.requires.folded.0 in
    let low : c.loop-i.i < length c.args.sides.now = omega arith in
    answers_long c.args.sides.now c.args.built.now c.loop-i.i c.index-sides-i.result (get_or c.args.built.now c.loop-i.i []) c.args.rank c.args.fold low (omega arith) (sym c.index-sides-i.is) (refs_there c.args.built.now c.loop-i.i (omega arith))
    c.args.store.now c.wave_counting_all.new.store c.loop-i.rest.now c.loop-i.invariant.answers c.steps-steps.result.now c.steps-steps.ensures

pub take-requires-clause-below : goal.take-requires-clause-below
take-requires-clause-below g c =
    let n = c.requires.folded.0 in
    let m = c.loop-i.invariant.len in
    let low : c.loop-i.i < length c.args.sides.now = omega arith in
    let one = c.index-sides-i.result in
    let refs = get_or c.loop-i.built c.loop-i.i c.index-built-i.result in
    let there = there_at c.loop-i.built c.args.built.now c.loop-i.i c.index-built-i.result (omega arith) (λ rs. c.loop-i.invariant.left c.loop-i.i rs (omega arith)) in
    steps_fit one.net (c.requires.plans one (c.loop-i.i, low, sym c.index-sides-i.is)).sound (input_level one) c.args.store.now refs refs c.args.rank c.args.fold c.steps-steps.result.now
    (c.requires.folded.1 c.loop-i.i one refs low (sym c.index-sides-i.is) there) refl c.steps-steps.ensures

pub loop-i-preserved : goal.loop-i-preserved
loop-i-preserved g c =
    let n = c.requires.folded.0 in
    let m = c.loop-i.invariant.len in
    let low : c.loop-i.i < length c.args.sides.now = omega arith in
    let one = c.index-sides-i.result in
    let S = c.args.store.now in
    let T = c.wave_counting_all.new.store in
    let refs = get_or c.loop-i.built c.loop-i.i c.index-built-i.result in
    let v = c.take.new.self in
    let there = there_at c.loop-i.built c.args.built.now c.loop-i.i c.index-built-i.result (omega arith) (λ rs. c.loop-i.invariant.left c.loop-i.i rs (omega arith)) in
    record {
      len = length-set c.loop-i.built c.loop-i.i v ∙ c.loop-i.invariant.len;
      left = set_left c.loop-i.built c.args.built.now c.loop-i.i v c.loop-i.invariant.left;
      done = set_each (λ o rs. AreFolded o.net (input_level o) T rs c.args.rank (c.args.fold + 1)) c.args.sides.now c.loop-i.built c.loop-i.i one v low (omega arith) (sym c.index-sides-i.is)
          (fold_next one.net (c.requires.plans one (c.loop-i.i, low, sym c.index-sides-i.is)).sound (input_level one) S T refs refs v c.args.rank c.args.fold c.steps-steps.result.now c.split_at.result.0.now
          c.levels.ensures.sound c.wave_counting_all.ensures.wave.wave.adds.keeps (c.requires.folded.1 c.loop-i.i one refs low (sym c.index-sides-i.is) there) refl c.steps-steps.ensures
          (answers_own c.args.sides.now c.args.built.now c.loop-i.i one refs c.args.rank c.args.fold low (omega arith) (sym c.index-sides-i.is) there S T c.loop-i.rest.now c.loop-i.invariant.answers c.steps-steps.result.now c.steps-steps.ensures
          c.split_at.result.0.now c.split_at.ensures.front)
          c.take.ensures)
          c.loop-i.invariant.done;
      answers = answers_rest c.args.sides.now c.args.built.now c.loop-i.i one refs c.args.rank c.args.fold low (omega arith) (sym c.index-sides-i.is) there S T c.loop-i.rest.now c.loop-i.invariant.answers c.steps-steps.result.now c.steps-steps.ensures
          c.split_at.result.1.now c.split_at.ensures.back;
    }

pub returns-clause-adds : goal.returns-clause-adds
returns-clause-adds g c =
    wave_adds c.args.store.now c.wave_counting_all.new.store c.as_slice.result.now (IsPlannedValue c.args.store.now.levels c.args.sides.now)
    (all_asked c.args.sides.now c.requires.plans c.args.store.now c.args.built.now c.args.rank c.args.fold c.as_slice.result.now c.requires.folded (c.as_slice.ensures.value ∙ c.in-Ok.ensures)) c.wave_counting_all.ensures.wave.wave.adds

pub returns-clause-next : goal.returns-clause-next
returns-clause-next g c = (c.loop-i.invariant.len ∙ c.requires.folded.0, λ k one refs lt at there. c.loop-i.invariant.done k one refs (omega arith) at there)

pub returns-clause-within : goal.returns-clause-within
returns-clause-within g c =
    wave_unasked c.args.sides.now c.requires.plans c.args.store.now c.wave_counting_all.new.store c.levels.ensures.sound c.args.built.now c.args.rank c.args.fold c.as_slice.result.now c.requires.folded (c.as_slice.ensures.value ∙ c.in-Ok.ensures) c.in_ok-answers.ensures.wave.held
    (by_held c.args.store.now c.args.engine.now.held c.in_ok-answers.ensures.wave.held c.requires.held c.in_ok-answers.ensures.wave.known) c.in_ok-answers.ensures.wave.wave.within

pub wave_counting_all-requires-clause-right : goal.wave_counting_all-requires-clause-right
wave_counting_all-requires-clause-right g c κs within = c.requires.held.right

pub returns-clause-held : goal.returns-clause-held
returns-clause-held g c =
    let done = c.in_ok-answers.ensures.wave in
    wave_held c.args.store.now c.wave_counting_all.new.store done.held c.as_slice.result.now c.in_ok-answers.answers.items c.wave_counting_all.new.self.held (by_held c.args.store.now c.args.engine.now.held done.held c.requires.held done.known)
    done.wave.within done.kept c.in_ok-answers.ensures.right

pub returns-clause-within_bound : goal.returns-clause-within_bound
returns-clause-within_bound g c = λ bounded.
    wave_narrow c.args.sides.now c.requires.plans c.args.store.now c.levels.ensures.sound c.args.built.now c.args.rank c.args.fold c.as_slice.result.now c.requires.folded (c.as_slice.ensures.value ∙ c.in-Ok.ensures)
    (most_of c.args.engine.now.bound.requests) (c.in_ok-answers.ensures.within_bound bounded)

pub returns-in_err-answers-clause-past : goal.returns-in_err-answers-clause-past
returns-in_err-answers-clause-past g c =
    let past : c.wave_counting_all.result ≡ Err TooManyRequests → IsPast c.args.engine.now.bound.requests c.args.store.now.levels (map levelled_of c.args.sides.now) = λ refused.
    wave_past c.args.sides.now c.requires.plans c.args.store.now c.levels.ensures.sound c.args.built.now c.args.rank c.args.fold c.as_slice.result.now c.requires.folded (c.as_slice.ensures.value ∙ c.in-Ok.ensures)
    c.args.engine.now.bound.requests (c.wave_counting_all.ensures.past refused) in
    search (rules, past)
