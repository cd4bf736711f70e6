use Rattle.std.proofs.Common.{◌≡◌, ◌∙◌, ◌<◌, ◌++◌, ◌∷◌, [], ap, sym, map, take, length}
use Rattle.std.specs.Prelude.{Some}
use Rattle.std.proofs.lemmas.List.{map-append}
use Rattle.net_bench.specs.Circuit.{gate_of}
use Rattle.net_cone.specs.Walk.{gates_of, renumbered}
use Rattle.net_cone.proofs.Walking.{gate_here, gate_more, no_gate_by, no_more}
use Rattle.net_cone.proofs.numbering.renumbered_gates.Goals as goal
use Rattle.net_cone.proofs.numbering.renumbered_gates.Goals.{in-Gate+in_ok-renumbered+in_ok-push, in_default}

pub loop-place-preserved : goal.loop-place-preserved
loop-place-preserved c =
    let gates = c.args.net.now.gates in
    let signals = c.args.signals.now in
    let s = c.index-signals-place.result in
    let low : c.loop-place.place < length signals = c.loop-place-test.true in
    elim c.match-role.branch [
      | in-Gate+in_ok-renumbered+in_ok-push w ↦
          let (g, at, out) = w.in-Gate.ensures.value in
          let same : w.index-gates-gate.result ≡ g = gate_here gates c.gates-gates.result.now w.in-Gate.gate g w.index-gates-gate.result c.gates-gates.ensures.value at w.index-gates-gate.is in
          let found : gate_of gates s ≡ Some g = w.in-Gate.ensures.gate ∙ at in
          ap (λ v. v.items) w.copies-is ∙ w.in_ok-push.ensures.items ∙ ap (λ x. c.loop-place.copies.items ++ x ∷ []) (w.in_ok-renumbered.ensures ∙ ap (renumbered c.args.to.now) same) ∙
          ap (λ xs. xs ++ renumbered c.args.to.now g ∷ []) c.loop-place.invariant ∙
          sym (ap (map (renumbered c.args.to.now)) (gate_more gates signals c.loop-place.place s low c.index-signals-place.is g found) ∙ map-append (renumbered c.args.to.now) (gates_of gates (take c.loop-place.place signals)) (g ∷ []))
      | in_default w ↦
          ap (λ v. v.items) w.copies-is ∙ c.loop-place.invariant ∙
          sym (ap (map (renumbered c.args.to.now)) (no_more gates signals c.loop-place.place s low c.index-signals-place.is (c.role.ensures.gate ∙ no_gate_by gates c.role.result w.in_default.not-Gate)))
    ]
