use Rattle.std.proofs.Common.{◌∙◌, ◌<◌, All, List, ℕ, ap, length, map, subst, sym}
use Rattle.std.specs.List.{AllZip}
use Rattle.net_bench.specs.Circuit.{circuit}
use Rattle.net_cone.specs.Cones.{HasGates}
use Rattle.compare_built.specs.declared.subject.Subject.{Subject}
use Rattle.pair_facts.proofs.SerpentineOrder.{inside_first, inside_second, map_long, weighed, zip_long}
use Rattle.pair_facts.proofs.shares.weights_of.Goals as goal

pub gates_below-requires : goal.gates_below-requires
gates_below-requires c =
    subst (All (λ s. s < length c.args.first.now.names)) (sym (c.as_slice.ensures.value ∙ c.in_ok-roots.ensures))
    (inside_first (circuit c.args.first.now) (circuit c.args.second.now) c.args.subjects.now c.requires)

pub gates_below-requires-2 : goal.gates_below-requires-2
gates_below-requires-2 c =
    subst (All (λ s. s < length c.args.second.now.names)) (sym (c.as_slice-2.ensures.value ∙ c.in_ok-roots-2.ensures))
    (inside_second (circuit c.args.first.now) (circuit c.args.second.now) c.args.subjects.now c.requires)

pub sums_of-requires : goal.sums_of-requires
sums_of-requires c =
    let first = zip_long (HasGates (circuit c.args.first.now)) c.as_slice.result.now c.in_ok-ones.ones.items c.in_ok-ones.ensures in
    let second = zip_long (HasGates (circuit c.args.second.now)) c.as_slice-2.result.now c.in_ok-others.others.items c.in_ok-others.ensures in
    ap length c.as_slice-4.ensures.value ∙ second ∙ ap length (c.as_slice-2.ensures.value ∙ c.in_ok-roots-2.ensures) ∙ map_long (λ (s : Subject). s.second) c.args.subjects.now ∙
    sym (ap length c.as_slice-3.ensures.value ∙ first ∙ ap length (c.as_slice.ensures.value ∙ c.in_ok-roots.ensures) ∙ map_long (λ (s : Subject). s.first) c.args.subjects.now)

pub returns : goal.returns
returns c =
    let a = circuit c.args.first.now in
    let b = circuit c.args.second.now in
    weighed a b c.args.subjects.now c.as_slice-3.result.now c.as_slice-4.result.now c.in_ok-sums.sums.items
    (subst (AllZip (HasGates a) (map (λ (s : Subject). s.first) c.args.subjects.now)) (sym c.as_slice-3.ensures.value)
    (subst (λ (rs : List ℕ). AllZip (HasGates a) rs c.in_ok-ones.ones.items) (c.as_slice.ensures.value ∙ c.in_ok-roots.ensures) c.in_ok-ones.ensures))
    (subst (AllZip (HasGates b) (map (λ (s : Subject). s.second) c.args.subjects.now)) (sym c.as_slice-4.ensures.value)
    (subst (λ (rs : List ℕ). AllZip (HasGates b) rs c.in_ok-others.others.items) (c.as_slice-2.ensures.value ∙ c.in_ok-roots-2.ensures) c.in_ok-others.ensures))
    c.in_ok-sums.ensures.one_for_each c.in_ok-sums.ensures.sums
