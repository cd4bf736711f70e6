use Rattle.std.proofs.Common.{rules, ◌≡◌, ◌-◌, ℕ, ap, ◌∙◌}
use Rattle.std.specs.Prelude.{slice_index}
use Rattle.std.proofs.lemmas.Fn.{always_returns_same}
use Rattle.net_order.specs.Force.{u64_max}
use Rattle.net_order.specs.Index.{rising}
use Rattle.net_order.proofs.Rising.{sorted_is}
use Rattle.group_order.specs.Weights.{Weighing, all_by_weight}
use Rattle.group_order.proofs.weight_order.WeightState.all_by_weight.Goals as goal

pub returns : goal.returns
unfolding all_by_weight
returns c =
    let key : ℕ → ℕ = λ k. u64_max - slice_index c.args.self.now.weights k in
    let sorted = c.in_ok-sort_by_key.ensures.sorted key (always_returns_same _ (λ a r. r ≡ key a.0.now) _ (λ a r q k. search rules)) in
    let stable = c.in_ok-sort_by_key.ensures.stable key (always_returns_same _ (λ a r. r ≡ key a.0.now) _ (λ a r q k. search rules)) in
    sorted_is key c.in_ok-taken.taken.items c.sort_by_key.new.self.items sorted stable ∙ ap (rising key) (c.in_ok-taken.ensures.items ∙ c.as_slice.ensures.value ∙ ap (λ (w : Weighing). w.live) c.self.view_is)
