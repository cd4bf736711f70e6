use Rattle.std.proofs.Common.{rules, ◌≡◌, ◌∙◌, ℕ, ap}
use Rattle.std.specs.Prelude.{reverse}
use Rattle.std.proofs.lemmas.Fn.{always_returns_same}
use Rattle.net_order.specs.Index.{rising}
use Rattle.net_order.proofs.Rising.{sorted_is}
use Rattle.group_order.specs.FanOut.{by_falling_size}
use Rattle.group_order.proofs.fan_out.by_falling_size.Goals as goal

pub returns : goal.returns
unfolding by_falling_size
returns c =
    let key : ℕ → ℕ = λ x. x in
    let sorted = c.in_ok-sort_by_key.ensures.sorted key (always_returns_same _ (λ a r. r ≡ key a.0.now) _ (λ a r q k. search rules)) in
    let stable = c.in_ok-sort_by_key.ensures.stable key (always_returns_same _ (λ a r. r ≡ key a.0.now) _ (λ a r q k. search rules)) in
    c.reverse.ensures.items ∙ ap reverse (sorted_is key c.in_ok-sorted.sorted.items c.sort_by_key.new.self.items sorted stable ∙ ap (rising key) c.in_ok-sorted.ensures.items)
