-- The order of a round has the place of each pair once.
use Rattle.std.proofs.Common.{◌≡◌, ℕ, Bool, true, false, List, length, refl, subst, sym}
use Rattle.std.specs.Prelude.{IsPermutation, not}
use Rattle.std.proofs.lemmas.List.Sorted.{IsPermutation-filter_both, IsPermutation-trans}
use Rattle.net_bench.specs.Circuit.{Circuit}
use Rattle.net_order.specs.Force.{numbers_below}
use Rattle.compare_built.specs.declared.subject.Subject.{Subject}
use Rattle.compare_built.specs.PairSelection.{HasWeight}
use Rattle.pair_facts.specs.PairFacts.{IsWeightOrder}
use Rattle.pair_facts.proofs.SerpentineOrder.{zip_long}
use Rattle.cone_check.specs.JudgingOrder.{is_shown, is_unshown, unshown_first}

not_twice : (b : Bool) → b ≡ not (not b)
not_twice true = refl
not_twice false = refl

pub each_place : (a b : Circuit) (ss : List Subject) (flags : List Bool) (weighed places : List ℕ) → IsWeightOrder a b ss weighed → places ≡ unshown_first flags weighed → IsPermutation (numbers_below (length ss)) places
each_place a b ss flags weighed places falls split =
    let all : IsPermutation (numbers_below (length ss)) weighed = subst (λ n. IsPermutation (numbers_below n) weighed) (zip_long (HasWeight a b) ss falls.weights falls.weighed) falls.places in
    subst (IsPermutation (numbers_below (length ss))) (sym split)
    (IsPermutation-trans (numbers_below (length ss)) weighed (unshown_first flags weighed) all
    (IsPermutation-filter_both (is_unshown flags) (is_shown flags) (λ place. not_twice (is_shown flags place)) weighed))
