use Rattle.std.proofs.Common.{◌<◌, ◌≤◌, ℕ, ◌∙◌, ◌+◌, get_or, length, subst, sym, take, arith}
use Rattle.std.specs.Prelude.{All}
use Rattle.std.proofs.lemmas.List.{get_or_default, length-map, take_all}
use Rattle.net_simulate.specs.Columns.{KeepsVariables, column}
use Rattle.net_simulate.specs.Schedules.{HasValue}
use Rattle.net_simulate.proofs.Setting.{all_below, kept_more, no_gate, step}
use Rattle.net_simulate.proofs.simulation.set_gates.Goals as goal

pub set_gate-requires-clause-inside : goal.set_gate-requires-clause-inside
set_gate-requires-clause-inside g c =
    all_below c.args.net.now c.requires.sound c.args.schedule.now (length c.loop-place.values) c.requires.schedule (c.loop-place.auto.values ∙ c.requires.each)

pub loop-place-preserved : goal.loop-place-preserved
loop-place-preserved g c =
    let n = c.args.net.now in
    let es = c.args.schedule.now in
    let place = c.loop-place.place in
    let less : place < length es = omega arith in
    let e = get_or es place no_gate in
    let bits = λ (i : ℕ). column g.V.Packed.bit i c.loop-place.values in
    let done = λ (i : ℕ) (low : i < g.V.Packed.count).
    step n c.requires.sound es place e (bits i) c.requires.schedule less (get_or_default es place no_gate e less)
    (length-map c.loop-place.values (g.V.Packed.bit i) ∙ c.loop-place.auto.values ∙ c.requires.each) (c.loop-place.invariant.set i low) in
    record {
      set = λ i low. subst (λ bs. All (HasValue bs) (take (place + 1) es)) (sym (c.set_gate.ensures no_gate i low)) (done i low).0;
      kept = λ i low. kept_more n (column g.V.Packed.bit i c.args.values.now) (bits i) (column g.V.Packed.bit i c.set_gate.new.values) (c.loop-place.invariant.kept i low)
          (subst (KeepsVariables n (bits i)) (sym (c.set_gate.ensures no_gate i low)) (done i low).1);
    }

pub returns-clause-set : goal.returns-clause-set
returns-clause-set g c = λ i low.
    let high : length c.args.schedule.now ≤ c.loop-place.place = omega arith in
    subst (All (HasValue (column g.V.Packed.bit i c.loop-place.values))) (take_all c.loop-place.place c.args.schedule.now high) (c.loop-place.invariant.set i low)
