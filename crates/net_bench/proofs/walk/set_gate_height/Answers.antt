use Rattle.std.proofs.Common.{◌≡◌, ◌∙◌, ap, arith, get_or, map, ◌+◌}
use Rattle.net_bench.specs.Circuit.{greatest}
use Rattle.net_bench.proofs.Deep.{new_small, new_sound, new_ranked, old_ranked}
use Rattle.net_bench.proofs.walk.set_gate_height.Goals as goal

pub returns-then-height_of-ne0-clause-ranked : goal.returns-then-height_of-ne0-clause-ranked
returns-then-height_of-ne0-clause-ranked c =
    let r = c.requires in
    old_ranked c.args.gates.now c.args.heights.now c.args.place c.index-gates-place.result r.in_bounds c.index-gates-place.is r.outs r.one_gate r.sound r.all (omega (arith, c.height_of.ensures, c.if-height_of-ne0.true))

pub overflow_add-heights : goal.overflow_add-heights
overflow_add-heights c =
    let r = c.requires in
    let none : get_or c.args.heights.now c.index-gates-place.result.out 0 ≡ 0 = omega (arith, c.height_of.ensures, c.if-height_of-ne0.false) in
    let low = new_small c.args.gates.now c.args.heights.now c.args.place c.index-gates-place.result r.in_bounds c.index-gates-place.is r.outs r.one_gate r.sound r.all none in
    let is = c.greatest_height-most.ensures ∙ ap (λ os. greatest (map (λ s. get_or c.args.heights.now s 0) os)) c.as_slice.ensures in
    omega (arith, low, is, r.few)

pub returns-clause-sound : goal.returns-clause-sound
returns-clause-sound c =
    let r = c.requires in
    let none : get_or c.args.heights.now c.index-gates-place.result.out 0 ≡ 0 = omega (arith, c.height_of.ensures, c.if-height_of-ne0.false) in
    let is = c.greatest_height-most.ensures ∙ ap (λ os. greatest (map (λ s. get_or c.args.heights.now s 0) os)) c.as_slice.ensures in
    new_sound c.args.gates.now c.args.heights.now c.args.place c.index-gates-place.result r.in_bounds c.index-gates-place.is r.outs r.one_gate r.sound r.all c.number.result (c.greatest_height-most.result + 1) none c.number.ensures (ap (λ k. k + 1) is)

pub returns-clause-ranked : goal.returns-clause-ranked
returns-clause-ranked c =
    let r = c.requires in
    let is = c.greatest_height-most.ensures ∙ ap (λ os. greatest (map (λ s. get_or c.args.heights.now s 0) os)) c.as_slice.ensures in
    new_ranked c.args.gates.now c.args.heights.now c.args.place c.index-gates-place.result r.in_bounds c.index-gates-place.is r.outs r.one_gate r.sound r.all c.number.result (c.greatest_height-most.result + 1) c.number.ensures (ap (λ k. k + 1) is)
