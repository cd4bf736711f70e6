use Rattle.std.proofs.Common.{◌≡◌, ◌<◌, ◌∙◌, ap, sym, subst, arith, length, None, Err}
use Rattle.std.specs.Prelude.{IfSome, IsSomeAnd}
use Rattle.std.proofs.lemmas.Result.{err_from_is_err_and}
use Rattle.expand_work.specs.declared.fault.WaveFault.TheVariants.{Full, TooManyRequests, Stopped}
use Rattle.gate_plan.specs.Needing.{HasNeed}
use Rattle.net_bench.specs.Circuit.{Net, circuit}
use Rattle.net_order.specs.Order.{condition}
use Rattle.compare_built.specs.Conditions.{HasOneOutput}
use Rattle.compare_built.specs.Comparing.{AreBuilt, AreCompared, as_built}
use Rattle.compare_built.specs.Limits.{HasAll, IsOver}
use Rattle.compare_built.specs.Report.{subjects}
use Rattle.compare_built.specs.Widths.{IsWideWhere}
use Rattle.compare_built.proofs.Determined.{output_inside}
use Rattle.compare_built.proofs.Conditional.{made, handed, given_is, all_known, compared_plain, all_plain, condition_known, compared_by_wave, all_by_wave, over_by_wave, no_other}
use Rattle.compare_built.proofs.Widening.{wide_where}
use Rattle.compare_built.proofs.compared_pairs.compared_pairs_of.Goals as goal

pub returns-in_default-clause-compared : goal.returns-in_default-clause-compared
returns-in_default-clause-compared g c =
    let a = circuit c.args.task.now.first.now in
    let b = circuit c.args.task.now.second.now in
    let p = c.args.pairing.now in
    let S = c.args.store.now in
    let none : c.args.task.now.given ≡ None = no_other _ c.in_default.not-Some in
    subst (λ o. AreCompared as_built a b (condition o) p S c.in_ok-subjects.subjects.items c.in_ok-references.references.items) (sym none)
    (compared_plain a b (condition c.args.task.now.given) p S c.args.built.now c.requires.built c.in_ok-subjects.subjects.items (c.in_ok-subjects.ensures ∙ ap (subjects (circuit c.args.task.now.first.now) (circuit c.args.task.now.second.now)) c.naming.ensures) c.in_ok-references.references.items
    (made c.args.built.now c.in_ok-subjects.subjects.items _ _ c.in_ok-references.ensures c.as_slice.ensures.value))

pub returns-in_default-clause-need : goal.returns-in_default-clause-need
returns-in_default-clause-need g c = λ need.
    let a = circuit c.args.task.now.first.now in
    let b = circuit c.args.task.now.second.now in
    let p = c.args.pairing.now in
    let S = c.args.store.now in
    let none : c.args.task.now.given ≡ None = no_other _ c.in_default.not-Some in
    subst (λ o. HasAll a b (condition o) p S) (sym none) (all_plain a b p S (subst (λ o. HasNeed a b (condition o) p S) none need))

pub conjoin-requires-clause-references : goal.conjoin-requires-clause-references
conjoin-requires-clause-references g c = λ κs lives.
    let a = circuit c.args.task.now.first.now in
    let b = circuit c.args.task.now.second.now in
    all_known a b (condition c.args.task.now.given) c.args.pairing.now c.args.store.now c.args.built.now c.requires.built c.in_ok-subjects.subjects.items (c.in_ok-subjects.ensures ∙ ap (subjects (circuit c.args.task.now.first.now) (circuit c.args.task.now.second.now)) c.naming.ensures) c.as_slice-2.result.now
    (handed c.args.built.now c.in_ok-subjects.subjects.items _ _ _ c.as_slice-2.ensures.value c.in_ok-references.ensures c.as_slice.ensures.value)

pub conjoin-requires-clause-given : goal.conjoin-requires-clause-given
conjoin-requires-clause-given g c = λ κs lives.
    let k : Net = c.in-Some.given.now in
    let of = c.in_ok-subjects.subjects.items in
    let built = subst (λ o. AreBuilt (circuit c.args.task.now.first.now) (circuit c.args.task.now.second.now) (condition o) c.args.pairing.now c.args.store.now c.args.built.now) c.in-Some.is c.requires.built in
    let one : length k.outputs ≡ 1 = subst (λ o. IfSome (condition o) HasOneOutput) c.in-Some.is c.args.task.now.one_output in
    let some : 0 < length c.outputs.result.now = (let e = ap length c.outputs.ensures.value in omega (arith, one, e)) in
    condition_known c.args.task.now.first.now c.args.task.now.second.now k c.args.pairing.now c.args.store.now c.args.store.now c.args.built.now built (output_inside k c.outputs.ensures.sound one) of (c.in_ok-subjects.ensures ∙ ap (subjects (circuit c.args.task.now.first.now) (circuit c.args.task.now.second.now)) c.naming.ensures) c.as_slice-2.result.now c.given-holds.result
    (handed c.args.built.now c.in_ok-subjects.subjects.items _ _ _ c.as_slice-2.ensures.value c.in_ok-references.ensures c.as_slice.ensures.value)
    (given_is c.args.built.now.given c.outputs.result.now k.outputs c.index-outputs-0.result c.given-holds.result c.index-outputs-0.is c.outputs.ensures.value some c.given-holds.ensures)

pub returns-clause-compared : goal.returns-clause-compared
returns-clause-compared g c =
    let a = circuit c.args.task.now.first.now in
    let b = circuit c.args.task.now.second.now in
    let k : Net = c.in-Some.given.now in
    let of = c.in_ok-subjects.subjects.items in
    let built = subst (λ o. AreBuilt a b (condition o) c.args.pairing.now c.args.store.now c.args.built.now) c.in-Some.is c.requires.built in
    let one : length k.outputs ≡ 1 = subst (λ o. IfSome (condition o) HasOneOutput) c.in-Some.is c.args.task.now.one_output in
    let some : 0 < length c.outputs.result.now = (let e = ap length c.outputs.ensures.value in omega (arith, one, e)) in
    subst (λ o. AreCompared as_built a b (condition o) c.args.pairing.now c.conjoin.new.store of c.in_ok-restricted.restricted.items) (sym c.in-Some.is)
    (compared_by_wave c.args.task.now.first.now c.args.task.now.second.now k c.args.pairing.now c.args.store.now c.conjoin.new.store c.args.built.now built (output_inside k c.outputs.ensures.sound one) of (c.in_ok-subjects.ensures ∙ ap (subjects (circuit c.args.task.now.first.now) (circuit c.args.task.now.second.now)) c.naming.ensures) c.as_slice-2.result.now c.given-holds.result
    (handed c.args.built.now c.in_ok-subjects.subjects.items _ _ _ c.as_slice-2.ensures.value c.in_ok-references.ensures c.as_slice.ensures.value)
    (given_is c.args.built.now.given c.outputs.result.now k.outputs c.index-outputs-0.result c.given-holds.result c.index-outputs-0.is c.outputs.ensures.value some c.given-holds.ensures)
    c.in_ok-restricted.restricted.items c.conjoin.ensures.adds.keeps c.in_ok-restricted.ensures.conjoined)

pub returns-clause-need : goal.returns-clause-need
returns-clause-need g c = λ need.
    let a = circuit c.args.task.now.first.now in
    let b = circuit c.args.task.now.second.now in
    let k : Net = c.in-Some.given.now in
    let of = c.in_ok-subjects.subjects.items in
    let built = subst (λ o. AreBuilt a b (condition o) c.args.pairing.now c.args.store.now c.args.built.now) c.in-Some.is c.requires.built in
    let one : length k.outputs ≡ 1 = subst (λ o. IfSome (condition o) HasOneOutput) c.in-Some.is c.args.task.now.one_output in
    let some : 0 < length c.outputs.result.now = (let e = ap length c.outputs.ensures.value in omega (arith, one, e)) in
    subst (λ o. HasAll a b (condition o) c.args.pairing.now c.conjoin.new.store) (sym c.in-Some.is)
    (all_by_wave c.args.task.now.first.now c.args.task.now.second.now k c.args.pairing.now c.args.store.now c.conjoin.new.store c.args.built.now built (output_inside k c.outputs.ensures.sound one) of (c.in_ok-subjects.ensures ∙ ap (subjects (circuit c.args.task.now.first.now) (circuit c.args.task.now.second.now)) c.naming.ensures) c.as_slice-2.result.now c.given-holds.result
    (handed c.args.built.now c.in_ok-subjects.subjects.items _ _ _ c.as_slice-2.ensures.value c.in_ok-references.ensures c.as_slice.ensures.value)
    (given_is c.args.built.now.given c.outputs.result.now k.outputs c.index-outputs-0.result c.given-holds.result c.index-outputs-0.is c.outputs.ensures.value some c.given-holds.ensures)
    c.levels.ensures.sound c.conjoin.ensures.sound c.inputs.ensures.sound c.inputs-2.ensures.sound c.outputs.ensures.sound c.conjoin.ensures.adds c.in_ok-restricted.restricted.items c.in_ok-restricted.ensures.conjoined
    c.in_ok-restricted.ensures.within (subst (λ o. HasNeed a b (condition o) c.args.pairing.now c.args.store.now) c.in-Some.is need))

pub returns-in_err-restricted-clause-full : goal.returns-in_err-restricted-clause-full
returns-in_err-restricted-clause-full g c = λ need e.
    let a = circuit c.args.task.now.first.now in
    let b = circuit c.args.task.now.second.now in
    let k : Net = c.in-Some.given.now in
    let of = c.in_ok-subjects.subjects.items in
    let built = subst (λ o. AreBuilt a b (condition o) c.args.pairing.now c.args.store.now c.args.built.now) c.in-Some.is c.requires.built in
    let one : length k.outputs ≡ 1 = subst (λ o. IfSome (condition o) HasOneOutput) c.in-Some.is c.args.task.now.one_output in
    let some : 0 < length c.outputs.result.now = (let e = ap length c.outputs.ensures.value in omega (arith, one, e)) in
    let r = err_from_is_err_and c.from_residual-in_err-restricted.result c.from_residual-in_err-restricted.ensures.1 in
    let made = r.1 in
    let wave = r.2 in
    let full : c.in_err-restricted.field-0.0 ≡ Full = cc in
    subst (λ o. IsOver a b (condition o) c.args.pairing.now c.conjoin.new.store) (sym c.in-Some.is)
    (over_by_wave c.args.task.now.first.now c.args.task.now.second.now k c.args.pairing.now c.args.store.now c.conjoin.new.store c.args.built.now built (output_inside k c.outputs.ensures.sound one) of (c.in_ok-subjects.ensures ∙ ap (subjects (circuit c.args.task.now.first.now) (circuit c.args.task.now.second.now)) c.naming.ensures) c.as_slice-2.result.now c.given-holds.result
    (handed c.args.built.now c.in_ok-subjects.subjects.items _ _ _ c.as_slice-2.ensures.value c.in_ok-references.ensures c.as_slice.ensures.value)
    (given_is c.args.built.now.given c.outputs.result.now k.outputs c.index-outputs-0.result c.given-holds.result c.index-outputs-0.is c.outputs.ensures.value some c.given-holds.ensures)
    c.levels.ensures.sound c.conjoin.ensures.sound c.conjoin.ensures.adds c.in_err-restricted.field-0.0 c.in_err-restricted.ensures.fault full (subst (λ o. HasNeed a b (condition o) c.args.pairing.now c.args.store.now) c.in-Some.is need))

pub returns-in_err-restricted-clause-past : goal.returns-in_err-restricted-clause-past
returns-in_err-restricted-clause-past g c = λ e.
    let a = circuit c.args.task.now.first.now in
    let b = circuit c.args.task.now.second.now in
    let k : Net = c.in-Some.given.now in
    let of = c.in_ok-subjects.subjects.items in
    let built = subst (λ o. AreBuilt a b (condition o) c.args.pairing.now c.args.store.now c.args.built.now) c.in-Some.is c.requires.built in
    let one : length k.outputs ≡ 1 = subst (λ o. IfSome (condition o) HasOneOutput) c.in-Some.is c.args.task.now.one_output in
    let some : 0 < length c.outputs.result.now = (let e = ap length c.outputs.ensures.value in omega (arith, one, e)) in
    let r = err_from_is_err_and c.from_residual-in_err-restricted.result c.from_residual-in_err-restricted.ensures.1 in
    let made = r.1 in
    let wave = r.2 in
    let refused : c.in_err-restricted.field-0.0 ≡ TooManyRequests = cc in
    subst (λ o. IsSomeAnd (g.G.Monitor.bound c.args.crew.now.monitor.now).requests (λ n. IsSomeAnd (condition o) (λ x. IsWideWhere n a b x c.args.pairing.now))) (sym c.in-Some.is)
    (wide_where a b (circuit k) c.args.pairing.now c.args.store.now c.args.built.now c.levels.ensures.sound built of (c.in_ok-subjects.ensures ∙ ap (subjects (circuit c.args.task.now.first.now) (circuit c.args.task.now.second.now)) c.naming.ensures) c.as_slice-2.result.now
    (handed c.args.built.now c.in_ok-subjects.subjects.items _ _ _ c.as_slice-2.ensures.value c.in_ok-references.ensures c.as_slice.ensures.value) c.given-holds.result
    (given_is c.args.built.now.given c.outputs.result.now k.outputs c.index-outputs-0.result c.given-holds.result c.index-outputs-0.is c.outputs.ensures.value some c.given-holds.ensures)
    (g.G.Monitor.bound c.args.crew.now.monitor.now).requests (c.in_err-restricted.ensures.past (ap Err refused)))

pub returns-in_err-restricted-clause-stopped : goal.returns-in_err-restricted-clause-stopped
returns-in_err-restricted-clause-stopped g c = λ e.
    let r = err_from_is_err_and c.from_residual-in_err-restricted.result c.from_residual-in_err-restricted.ensures.1 in
    let made = r.1 in
    let wave = r.2 in
    let stopped : c.in_err-restricted.field-0.0 ≡ Stopped = cc in
    c.in_err-restricted.ensures.stopped (ap Err stopped)
