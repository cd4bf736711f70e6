use Rattle.std.proofs.Common.{◌∙◌, ◌≡◌, ap, length, Err}
use Rattle.std.proofs.lemmas.Result.{err_from_is_err_and}
use Rattle.dd_store.specs.Nodes.{Nodes, count_of}
use Rattle.net_bench.specs.Circuit.{circuit}
use Rattle.net_order.specs.Order.{condition}
use Rattle.expand_work.specs.declared.fault.WaveFault.TheVariants.{Full, TooManyRequests, Stopped}
use Rattle.gate_plan.proofs.Needed.{lean_left}
use Rattle.compare_built.specs.declared.fault.CheckFault.TheVariants.{Wave}
use Rattle.compare_built.proofs.Limiting.{none_before, exceeds, fits, over}
use Rattle.compare_built.proofs.Subjects.{all_signals}
use Rattle.compare_built.proofs.Widening.{wide_build, wide_compared}
use Rattle.compare_built.proofs.comparison.built_within.Goals as goal

pub compared_pairs_of-requires : goal.compared_pairs_of-requires
compared_pairs_of-requires g c = (
  c.type_bounds.sync-H,
  (
    c.type_bounds.sync-G,
    record {
      levels = c.in_ok-built.ensures.keeps.levels ∙ ap (λ (S : Nodes). S.levels) c.in_ok-store.ensures ∙ c.len-levels.ensures.value ∙ ap length c.names.ensures.value;
      first = c.in_ok-built.ensures.first;
      second = c.in_ok-built.ensures.second;
      condition = c.in_ok-built.ensures.given;
      signals = all_signals _ c.args.task.now.first.now c.args.task.now.second.now (condition c.args.task.now.given) _ _ c.inputs.ensures.sound c.inputs-2.ensures.sound c.requires.paired.2.naming;
    },
  ),
)

pub returns-in_err-built-clause-full : goal.returns-in_err-built-clause-full
returns-in_err-built-clause-full g c = λ e.
    let T : Nodes = c.build.new.store in
    let a = circuit c.args.task.now.first.now in
    let b = circuit c.args.task.now.second.now in
    let given = condition c.args.task.now.given in
    let p = c.args.pairing.now in
    let levels : T.levels ≡ c.len-levels.result = c.build.ensures.keeps.levels ∙ ap (λ (S : Nodes). S.levels) c.in_ok-store.ensures in
    let limit : T.limit ≡ c.args.limit = c.build.ensures.keeps.limit ∙ ap (λ (S : Nodes). S.limit) c.in_ok-store.ensures in
    let none : count_of c.in_ok-store.store ≡ 0 = ap count_of c.in_ok-store.ensures ∙ none_before c.len-levels.result c.args.limit T c.build.ensures.sound levels limit in
    let r = err_from_is_err_and c.from_residual-in_err-built.result c.from_residual-in_err-built.ensures.1 in
    let made = r.1 in
    let wave = r.2 in
    let full : c.in_err-built.field-0.0 ≡ Full = cc in
    exceeds c.args.limit a b given p T c.in_err-built.field-0.0 c.build.ensures.sound (levels ∙ c.len-levels.ensures.value ∙ ap length c.names.ensures.value) limit
    (lean_left a b given p c.in_ok-store.store T none c.build.ensures.adds) full c.in_err-built.ensures.fault

pub returns-in_err-shown-clause-full : goal.returns-in_err-shown-clause-full
returns-in_err-shown-clause-full g c = λ e.
    let T : Nodes = c.build.new.store in
    let U : Nodes = c.compared_pairs_of.new.store in
    let levels : T.levels ≡ c.len-levels.result = c.build.ensures.keeps.levels ∙ ap (λ (S : Nodes). S.levels) c.in_ok-store.ensures in
    let limit : T.limit ≡ c.args.limit = c.build.ensures.keeps.limit ∙ ap (λ (S : Nodes). S.limit) c.in_ok-store.ensures in
    let none : count_of c.in_ok-store.store ≡ 0 = ap count_of c.in_ok-store.ensures ∙ none_before c.len-levels.result c.args.limit T c.build.ensures.sound levels limit in
    let r = err_from_is_err_and c.from_residual-in_err-shown.result c.from_residual-in_err-shown.ensures.1 in
    let made = r.1 in
    let wave = r.2 in
    let full : c.in_err-shown.field-0.0 ≡ Wave Full = cc in
    over c.args.limit (circuit c.args.task.now.first.now) (circuit c.args.task.now.second.now) (condition c.args.task.now.given) c.args.pairing.now U c.compared_pairs_of.ensures.sound
    (c.compared_pairs_of.ensures.keeps.levels ∙ levels ∙ c.len-levels.ensures.value ∙ ap length c.names.ensures.value) (c.compared_pairs_of.ensures.keeps.limit ∙ limit)
    (c.in_err-shown.ensures.full (c.in_ok-built.ensures.need none) (ap Err full))

pub returns-clause-within : goal.returns-clause-within
returns-clause-within g c =
    let T : Nodes = c.build.new.store in
    let U : Nodes = c.compared_pairs_of.new.store in
    let levels : T.levels ≡ c.len-levels.result = c.build.ensures.keeps.levels ∙ ap (λ (S : Nodes). S.levels) c.in_ok-store.ensures in
    let limit : T.limit ≡ c.args.limit = c.build.ensures.keeps.limit ∙ ap (λ (S : Nodes). S.limit) c.in_ok-store.ensures in
    let none : count_of c.in_ok-store.store ≡ 0 = ap count_of c.in_ok-store.ensures ∙ none_before c.len-levels.result c.args.limit T c.build.ensures.sound levels limit in
    fits c.args.limit (circuit c.args.task.now.first.now) (circuit c.args.task.now.second.now) (condition c.args.task.now.given) c.args.pairing.now U c.compared_pairs_of.ensures.sound
    (c.compared_pairs_of.ensures.keeps.levels ∙ levels ∙ c.len-levels.ensures.value ∙ ap length c.names.ensures.value) (c.compared_pairs_of.ensures.keeps.limit ∙ limit)
    (c.in_ok-shown.ensures.need (c.in_ok-built.ensures.need none))

pub returns-in_err-built-clause-past : goal.returns-in_err-built-clause-past
returns-in_err-built-clause-past g c = λ e.
    let r = err_from_is_err_and c.from_residual-in_err-built.result c.from_residual-in_err-built.ensures.1 in
    let made = r.1 in
    let wave = r.2 in
    let refused : c.in_err-built.field-0.0 ≡ TooManyRequests = cc in
    wide_build (circuit c.args.task.now.first.now) (circuit c.args.task.now.second.now) (condition c.args.task.now.given) c.args.pairing.now (g.G.Monitor.bound c.args.monitor.now).requests (c.in_err-built.ensures.past (ap Err refused))

pub returns-in_err-shown-clause-past : goal.returns-in_err-shown-clause-past
returns-in_err-shown-clause-past g c = λ e.
    let r = err_from_is_err_and c.from_residual-in_err-shown.result c.from_residual-in_err-shown.ensures.1 in
    let made = r.1 in
    let wave = r.2 in
    let refused : c.in_err-shown.field-0.0 ≡ Wave TooManyRequests = cc in
    wide_compared (circuit c.args.task.now.first.now) (circuit c.args.task.now.second.now) (condition c.args.task.now.given) c.args.pairing.now (g.G.Monitor.bound c.args.monitor.now).requests (c.in_err-shown.ensures.past (ap Err refused))

pub returns-in_err-built-clause-stopped : goal.returns-in_err-built-clause-stopped
returns-in_err-built-clause-stopped g c = λ e.
    let r = err_from_is_err_and c.from_residual-in_err-built.result c.from_residual-in_err-built.ensures.1 in
    let made = r.1 in
    let wave = r.2 in
    let stopped : c.in_err-built.field-0.0 ≡ Stopped = cc in
    c.in_err-built.ensures.stopped (ap Err stopped)

pub returns-in_err-shown-clause-stopped : goal.returns-in_err-shown-clause-stopped
returns-in_err-shown-clause-stopped g c = λ e.
    let r = err_from_is_err_and c.from_residual-in_err-shown.result c.from_residual-in_err-shown.ensures.1 in
    let made = r.1 in
    let wave = r.2 in
    let stopped : c.in_err-shown.field-0.0 ≡ Wave Stopped = cc in
    c.in_err-shown.ensures.stopped (ap Err stopped)
