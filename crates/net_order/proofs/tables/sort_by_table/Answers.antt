use Rattle.std.proofs.Common.{rules, ◌≡◌, ℕ}
use Rattle.std.specs.Prelude.{slice_index}
use Rattle.std.proofs.lemmas.Fn.{always_returns_same}
use Rattle.net_order.proofs.Rising.{sorted_is}
use Rattle.net_order.proofs.tables.sort_by_table.Goals as goal

pub returns : goal.returns
returns c =
    let key : ℕ → ℕ = slice_index c.args.table.now in
    let sorted = c.in_ok-sort_by_key.ensures.sorted key (always_returns_same _ (λ a r. r ≡ key a.0.now) _ (λ a r q k. search rules)) in
    let stable = c.in_ok-sort_by_key.ensures.stable key (always_returns_same _ (λ a r. r ≡ key a.0.now) _ (λ a r q k. search rules)) in
    sorted_is key c.args.order.now.items c.sort_by_key.new.self.items sorted stable
