use Rattle.std.proofs.Common.{rules, ◌≡◌, ℕ, subst}
use Rattle.std.specs.Prelude.{slice_index}
use Rattle.std.specs.declared.cmp.Reverse.{Reverse}
use Rattle.std.specs.List.Sorted.{IsStableBy}
use Rattle.std.proofs.lemmas.Fn.{always_returns_same}
use Rattle.net_order.proofs.Falling.{before, sorted_is}
use Rattle.net_order.proofs.Ranking.{falling_is}
use Rattle.net_order.proofs.falling_rank.by_rank.Goals as goal

pub returns : goal.returns
returns c =
    let rank = slice_index c.args.net.now.ranks in
    let key : ℕ → Reverse ℕ = λ s. record { 0 = rank s } in
    let sorted = c.in_ok-sort_by_key.ensures.sorted key (always_returns_same _ (λ a r. r ≡ key a.0.now) _ (λ a r q k. search rules)) in
    let stable = c.in_ok-sort_by_key.ensures.stable key (always_returns_same _ (λ a r. r ≡ key a.0.now) _ (λ a r q k. search rules)) in
    falling_is c.args.net.now c.count.ensures.sound c.args.signals.now c.sort_by_key.new.self.items c.requires
    (sorted_is rank c.args.signals.now c.sort_by_key.new.self.items sorted (subst (λ xs. IsStableBy (before rank) xs c.sort_by_key.new.self.items) c.in_ok-sorted.ensures.items stable))
