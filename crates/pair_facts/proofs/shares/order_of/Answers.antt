use Rattle.std.proofs.Common.{rules, ◌≡◌, ℕ, length, subst}
use Rattle.std.specs.Prelude.{slice_index}
use Rattle.std.specs.declared.cmp.Reverse.{Reverse}
use Rattle.std.specs.List.Sorted.{IsPermutation, IsStableBy}
use Rattle.std.proofs.lemmas.Fn.{always_returns_same}
use Rattle.net_order.specs.Force.{numbers_below}
use Rattle.net_order.proofs.Falling.{before, sorted_is}
use Rattle.pair_facts.proofs.SerpentineOrder.{order_falls}
use Rattle.pair_facts.proofs.shares.order_of.Goals as goal

pub returns-clause-places : goal.returns-clause-places
returns-clause-places c = subst (λ xs. IsPermutation xs c.sort_by_key.new.self.items) c.in_ok-order.ensures c.in_ok-sort_by_key.ensures.permutation

pub returns-clause-falls : goal.returns-clause-falls
returns-clause-falls c =
    let weight = slice_index c.args.weights.now in
    let key : ℕ → Reverse ℕ = λ i. record { 0 = weight i } in
    let sorted = c.in_ok-sort_by_key.ensures.sorted key (always_returns_same _ (λ a r. r ≡ key a.0.now) _ (λ a r q k. search rules)) in
    let stable = c.in_ok-sort_by_key.ensures.stable key (always_returns_same _ (λ a r. r ≡ key a.0.now) _ (λ a r q k. search rules)) in
    order_falls c.args.weights.now c.sort_by_key.new.self.items
    (sorted_is weight (numbers_below (length c.args.weights.now)) c.sort_by_key.new.self.items sorted (subst (λ xs. IsStableBy (before weight) xs c.sort_by_key.new.self.items) c.in_ok-order.ensures stable))
