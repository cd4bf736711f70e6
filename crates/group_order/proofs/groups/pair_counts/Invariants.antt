use Rattle.std.proofs.Common.{◌≡◌, [], ◌∷◌, drop}
use Rattle.std.specs.Prelude.{fold}
use Rattle.net_order.specs.Force.{with_added}
use Rattle.group_order.proofs.groups.pair_counts.Given as goal

abbrev pub invariant-loop-pair : goal.invariant-loop-pair
invariant-loop-pair l =
    fold (λ t p. with_added 1 t (p.low ∷ p.high ∷ [])) l.counts.items (drop l.pair-index l.pairs) ≡
    fold (λ t p. with_added 1 t (p.low ∷ p.high ∷ [])) l.initial.counts.items l.pairs
