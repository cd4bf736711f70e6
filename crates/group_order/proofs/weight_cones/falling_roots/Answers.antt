use Rattle.std.proofs.Common.{rules, ◌≡◌, ◌-◌, ◌^◌, ◌∙◌, ℕ, ap}
use Rattle.std.specs.Prelude.{slice_index}
use Rattle.std.proofs.lemmas.Fn.{always_returns_same}
use Rattle.net_order.specs.Index.{rising}
use Rattle.net_order.proofs.Rising.{sorted_is}
use Rattle.group_order.specs.WeightCones.{falling_roots}
use Rattle.group_order.proofs.weight_cones.falling_roots.Goals as goal

pub returns : goal.returns
unfolding falling_roots
returns c =
    let key : ℕ → ℕ = λ s. 2 ^ 32 - 1 - slice_index c.args.net.now.ranks s in
    let sorted = c.in_ok-sort_by_key.ensures.sorted key (always_returns_same _ (λ a r. r ≡ key a.0.now) _ (λ a r q k. search rules)) in
    let stable = c.in_ok-sort_by_key.ensures.stable key (always_returns_same _ (λ a r. r ≡ key a.0.now) _ (λ a r q k. search rules)) in
    sorted_is key c.in_ok-roots.roots.items c.sort_by_key.new.self.items sorted stable ∙ ap (rising key) c.in_ok-roots.ensures.value
