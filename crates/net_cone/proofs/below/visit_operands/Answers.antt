use Rattle.std.proofs.Common.{◌≡◌, ◌⊎◌, ◌∙◌, inl, inr, ℕ, ◌<◌, refl, subst, sym, ap, length}
use Rattle.std.specs.Prelude.{All, Contains}
use Rattle.std.proofs.lemmas.Option.{slice_get_within}
use Rattle.net_bench.specs.declared.netlist.GateLine.{GateLine}
use Rattle.net_cone.specs.Walk.{IsVisited}
use Rattle.net_cone.proofs.Walking.{gate_among, gate_here, no_gate_by, operands_low, pass_gate, pass_variable}
use Rattle.net_cone.proofs.below.visit_operands.Goals as goal

pub returns-in_default : goal.returns-in_default
returns-in_default c = record {
  walking = pass_variable c.args.net.now c.role.ensures.sound c.args.root c.args.signal c.args.seen.now c.args.seen.now c.args.waiting.now.items c.args.waiting.now.items c.requires.walking
      (c.role.ensures.gate ∙ no_gate_by c.args.net.now.gates c.role.result c.in_default.not-Gate);
  new_ones_wait = λ t now. inl now;
  waiting = λ t waits. waits;
  steps = refl;
}

pub bounds-gates-place : goal.bounds-gates-place
bounds-gates-place c =
    let (g, at, out) = c.in-Gate.ensures.value in
    subst (λ gs. c.in-Gate.place < length gs) (sym c.gates-gates.ensures.value) (slice_get_within c.args.net.now.gates c.in-Gate.place g at)

pub visit_all-requires : goal.visit_all-requires
visit_all-requires c =
    let (g, at, out) = c.in-Gate.ensures.value in
    let same : c.index-gates-place.result ≡ g = gate_here c.args.net.now.gates c.gates-gates.result.now c.in-Gate.place g c.index-gates-place.result c.gates-gates.ensures.value at c.index-gates-place.is in
    let operands : c.as_slice.result.now ≡ g.operands = c.as_slice.ensures ∙ ap (λ (x : GateLine). x.operands) (sym c.index-gates-place.is ∙ same) in
    record {
      in_bounds = subst (All (λ t. t < length c.args.seen.now)) (sym operands)
          (operands_low c.args.net.now c.role.ensures.sound g (gate_among c.args.net.now.gates c.in-Gate.place g at) (length c.args.seen.now) c.requires.walking.each);
    }

pub returns-clause-walking : goal.returns-clause-walking
returns-clause-walking c =
    let (g, at, out) = c.in-Gate.ensures.value in
    let same : c.index-gates-place.result ≡ g = gate_here c.args.net.now.gates c.gates-gates.result.now c.in-Gate.place g c.index-gates-place.result c.gates-gates.ensures.value at c.index-gates-place.is in
    let operands : c.as_slice.result.now ≡ g.operands = c.as_slice.ensures ∙ ap (λ (x : GateLine). x.operands) (sym c.index-gates-place.is ∙ same) in
    pass_gate c.args.net.now c.role.ensures.sound c.args.root c.args.signal c.args.seen.now c.visit_all.new.seen c.args.waiting.now.items c.visit_all.new.waiting.items c.requires.walking
    g (gate_among c.args.net.now.gates c.in-Gate.place g at) out (c.visit_all.auto.seen ∙ c.requires.walking.each)
    (subst (All (IsVisited c.visit_all.new.seen)) operands c.in_ok-visit_all.ensures.signals_visited) c.in_ok-visit_all.ensures.kept
    (subst (λ os. (t : ℕ) → IsVisited c.visit_all.new.seen t → IsVisited c.args.seen.now t ⊎ (Contains os t × Contains c.visit_all.new.waiting.items t)) operands c.in_ok-visit_all.ensures.new_ones_wait)
    c.in_ok-visit_all.ensures.waiting c.in_ok-visit_all.ensures.visited

pub returns-clause-new_ones_wait : goal.returns-clause-new_ones_wait
returns-clause-new_ones_wait c = λ t now. elim (c.in_ok-visit_all.ensures.new_ones_wait t now) [
  | inl was ↦ inl was
  | inr (among, waits) ↦ inr waits
]
