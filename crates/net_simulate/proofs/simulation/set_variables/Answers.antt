use Rattle.std.proofs.Common.{◌≡◌, ◌<◌, ◌∙◌, length, subst, sym}
use Rattle.std.specs.Prelude.{All}
use Rattle.net_bench.specs.Circuit.{HaveNoRepeats, circuit, variables_of}
use Rattle.net_simulate.proofs.Setting.{variables_more}
use Rattle.net_simulate.proofs.simulation.set_variables.Goals as goal

pub loop-place-preserved : goal.loop-place-preserved
loop-place-preserved g c = λ i low.
    let vars = c.variables-variables.result.now in
    let sound = c.variables-variables.ensures.sound in
    let once : HaveNoRepeats vars = subst HaveNoRepeats (sym c.variables-variables.ensures.value) sound.variables_once in
    let each : length c.args.net.now.names ≡ length c.loop-place.values = sym (c.loop-place.auto.values ∙ c.requires.each) in
    let inside : All (λ s. s < length c.loop-place.values) vars =
    subst (λ ss. All (λ s. s < length c.loop-place.values) ss) (sym c.variables-variables.ensures.value) (subst (λ k. All (λ s. s < k) (variables_of (circuit c.args.net.now))) each sound.variables) in
    variables_more g.V.Packed.bit i vars c.args.levels.now c.args.at.now c.loop-place.values c.loop-place.place c.number.result c.index-variables-place.result c.value_at-value.result
    once inside c.loop-place-test.true (c.number.ensures ∙ c.index-variables-place.is) (c.value_at-value.ensures i low) (c.loop-place.invariant i low)
