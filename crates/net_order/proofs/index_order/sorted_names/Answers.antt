use Rattle.std.proofs.Common.{rules, ◌≡◌, ◌∙◌, ℕ, Vec, ap, map}
use Rattle.std.specs.declared.alloc.Global.{Global}
use Rattle.std.proofs.lemmas.Fn.{always_returns_same}
use Rattle.net_order.specs.Index.{index_key, rising}
use Rattle.net_order.proofs.Rising.{rising_mapped, sorted_is}
use Rattle.net_order.proofs.index_order.sorted_names.Goals as goal

pub returns : goal.returns
returns c =
    let key : Vec ℕ Global → ℕ = λ w. index_key w.items in
    let sorted = c.in_ok-sort_by_key.ensures.sorted key (always_returns_same _ (λ a r. r ≡ key a.0.now) _ (λ a r q k. search rules)) in
    let stable = c.in_ok-sort_by_key.ensures.stable key (always_returns_same _ (λ a r. r ≡ key a.0.now) _ (λ a r q k. search rules)) in
    ap (map (λ (w : Vec ℕ Global). w.items)) (sorted_is key c.in_ok-sorted.sorted.items c.sort_by_key.new.self.items sorted stable) ∙
    rising_mapped (λ (w : Vec ℕ Global). w.items) index_key c.in_ok-sorted.sorted.items ∙ ap (rising index_key) c.in_ok-sorted.ensures
