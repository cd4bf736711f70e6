use Rattle.std.proofs.Common.{◌∙◌, ◌<◌, All, List, ℕ, length, subst, sym}
use Rattle.std.specs.Prelude.{slice_index}
use Rattle.std.specs.List.Sorted.{IsPermutation}
use Rattle.net_order.specs.Force.{numbers_below}
use Rattle.compare_built.specs.PairSelection.{ComesBefore}
use Rattle.pair_facts.proofs.SerpentineOrder.{order_inside, order_long, order_once}
use Rattle.pair_facts.proofs.shares.shares_of.Goals as goal

pub shares_by-requires-clause-in_range : goal.shares_by-requires-clause-in_range
shares_by-requires-clause-in_range c =
    let weighted = c.in_ok-order.ensures in
    subst (λ (o : List ℕ). All (λ i. i < length o) o) (sym c.as_slice.ensures.value) (order_inside (length weighted.weights) c.in_ok-order.order.items weighted.places)

pub shares_by-requires-clause-once : goal.shares_by-requires-clause-once
shares_by-requires-clause-once c =
    let weighted = c.in_ok-order.ensures in
    order_once weighted.weights c.as_slice.result.now
    (subst (λ (o : List ℕ). (t u : ℕ) → t < u → u < length o → ComesBefore weighted.weights (slice_index o t) (slice_index o u)) (sym c.as_slice.ensures.value) weighted.falls)

pub returns : goal.returns
returns c =
    let weighted = c.in_ok-order.ensures in
    let order = c.as_slice.result.now in
    let places : IsPermutation (numbers_below (length weighted.weights)) order = subst (IsPermutation (numbers_below (length weighted.weights))) (sym c.as_slice.ensures.value) weighted.places in
    record {
      weights = weighted.weights;
      weighed = weighted.weighed;
      order = order;
      places = places;
      falls = subst (λ (o : List ℕ). (t u : ℕ) → t < u → u < length o → ComesBefore weighted.weights (slice_index o t) (slice_index o u)) (sym c.as_slice.ensures.value) weighted.falls;
      each = c.in_ok-shares.ensures.one_for_each ∙ order_long (length weighted.weights) order places;
      share = c.in_ok-shares.ensures.share;
    }
