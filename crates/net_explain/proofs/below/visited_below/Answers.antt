use Rattle.std.proofs.Common.{◌≡◌, ◌⊎◌, ◌↔◌, ℕ, true, ◌∙◌, subst, sym, map, rules}
use Rattle.std.specs.Prelude.{Contains}
use Rattle.net_bench.specs.Labels.{bit_of}
use Rattle.net_explain.specs.Explaining.{AreBelowFlags}
use Rattle.net_explain.proofs.Visiting.{below_of, from_low, written}
use Rattle.net_explain.proofs.below.visited_below.Goals as goal

pub set_flags-requires : goal.set_flags-requires
set_flags-requires c =
    from_low c.args.net.now c.count.ensures.sound c.args.root (map (λ w. w.items) c.as_slice.result.now) c.in_ok-cone.cone.net c.in_ok-cone.cone.from.items c.requires c.in_ok-cone.ensures
    c.sources.result.now c.as_mut_slice.result.now c.sources.ensures (c.as_mut_slice.ensures.len ∙ c.in_ok-visited.ensures.len ∙ c.count.ensures.value)

pub returns : goal.returns
returns c =
    subst (AreBelowFlags c.args.net.now c.args.root) (sym (written c.in_ok-visited.visited.len c.set_flags.new.visited c.in_ok-visited.visited.items (c.set_flags.auto.visited ∙ c.as_mut_slice.ensures.len)))
    (below_of c.args.net.now c.count.ensures.sound c.args.root (map (λ w. w.items) c.as_slice.result.now) c.in_ok-cone.cone.net c.in_ok-cone.cone.from.items c.in_ok-cone.ensures c.count.result
    c.as_mut_slice.result.now c.set_flags.new.visited (c.as_mut_slice.ensures.value ∙ c.in_ok-visited.ensures.items_if_clones_equal (λ y h. search rules))
    (c.set_flags.auto.visited ∙ c.as_mut_slice.ensures.len ∙ c.in_ok-visited.ensures.len ∙ c.count.ensures.value)
    (subst (λ ss. (s : ℕ) → (bit_of c.set_flags.new.visited s ≡ true) ↔ ((bit_of c.as_mut_slice.result.now s ≡ true) ⊎ Contains ss s)) c.sources.ensures c.set_flags.ensures))
