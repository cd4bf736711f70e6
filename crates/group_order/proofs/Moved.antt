-- Each order has the number of each variable once.
use Rattle.std.proofs.Common.{◌≡◌, inl, inr, ℕ, zero, suc, ◌<◌, List, [], ◌∷◌, ◌++◌, Bool, refl, ◌∙◌, subst, length, get_or, arith, All, map}
use Rattle.std.specs.Prelude.{replicate, slice_index}
use Rattle.std.specs.List.Sorted.{IsPermutation}
use Rattle.std.proofs.lemmas.Bool.{cases_lt}
use Rattle.std.proofs.lemmas.List.{length-append, get_or_append_left}
use Rattle.std.proofs.Math.Seq.{get_or-append_seam}
use Rattle.std.proofs.lemmas.List.Sorted.{All-permutation, IsPermutation-trans, length_permutation}
use Rattle.net_order.specs.Force.{numbers_below}
use Rattle.net_order.proofs.Rising.{rising_moved}
use Rattle.group_order.specs.Sides.{IndexedNetlistModel, completed, first_places}
use Rattle.group_order.specs.FanOut.{selector_key, with_selectors_first}
use Rattle.group_order.specs.Groups.{group_labels, group_places, grouped}
use Rattle.group_order.specs.NameKeys.{falling_numbers, rising_numbers}
use Rattle.group_order.specs.FreeForce.{free_numbers}
use Rattle.group_order.specs.Orders.{force_groups_numbers, msb_first_numbers, selectors_of, weighed_below, weights_numbers}

-- ---- the numbers below a number

pub numbers_long : (n : ℕ) → length (numbers_below n) ≡ n
unfolding numbers_below
numbers_long zero = refl
numbers_long (suc n) = let rest : length (numbers_below n) ≡ n = numbers_long n in omega (arith, length-append (numbers_below n) (n ∷ []))

number_at : (n i d : ℕ) → i < n → get_or (numbers_below n) i d ≡ i
unfolding numbers_below
number_at zero i d low = absurd (omega arith)
number_at (suc n) i d low =
    let long : length (numbers_below n) ≡ n = numbers_long n in
    elim (cases_lt i n) [
      | inl before ↦ get_or_append_left (numbers_below n) (n ∷ []) d i (omega arith) ∙ number_at n i d before
      | inr on ↦
          let last : length (numbers_below n) ≡ i = omega arith in
          subst (λ k. get_or (numbers_below n ++ n ∷ []) k d ≡ n) last (get_or-append_seam (numbers_below n) n [] d) ∙ omega arith
    ]

numbers_inside : (n : ℕ) → All (λ v. v < n) (numbers_below n)
numbers_inside n i d low =
    let long : length (numbers_below n) ≡ n = numbers_long n in
    let at : get_or (numbers_below n) i d ≡ i = number_at n i d (omega arith) in
    omega arith

-- a permutation of the numbers below n has numbers below n, and equally many
pub moved_low : (n : ℕ) (order : List ℕ) → IsPermutation (numbers_below n) order → All (λ v. v < n) order
moved_low n order moved = All-permutation (λ v. v < n) (numbers_below n) order moved (numbers_inside n)

pub moved_long : (n : ℕ) (order : List ℕ) → IsPermutation (numbers_below n) order → length order ≡ n
moved_long n order moved = length_permutation (numbers_below n) order moved ∙ numbers_long n

-- ---- the parts from which orders are made

completed_moved : (n : ℕ) (vs : List ℕ) → IsPermutation (numbers_below n) (completed n vs)
unfolding completed
completed_moved n vs = rising_moved (slice_index (first_places (numbers_below n) (replicate (length (numbers_below n)) (length vs)) 0 vs)) (numbers_below n)

grouped_moved : (labels order : List ℕ) → IsPermutation order (grouped labels order)
unfolding grouped
grouped_moved labels order = rising_moved (slice_index (group_places labels order)) order

first_moved : (chosen : List Bool) (order : List ℕ) → IsPermutation order (with_selectors_first chosen order)
unfolding with_selectors_first
first_moved chosen order = rising_moved (slice_index (map selector_key chosen)) order

falling_moved : (names : List (List ℕ)) → IsPermutation (numbers_below (length names)) (falling_numbers names)
unfolding falling_numbers
falling_moved names = rising_moved _ (numbers_below (length names))

rising_names_moved : (names : List (List ℕ)) → IsPermutation (numbers_below (length names)) (rising_numbers names)
unfolding rising_numbers
rising_names_moved names = rising_moved _ (numbers_below (length names))

free_moved : (chosen : List Bool) (names : List (List ℕ)) (sides : List IndexedNetlistModel) → IsPermutation (numbers_below (length names)) (free_numbers chosen (rising_numbers names) sides)
unfolding free_numbers
free_moved chosen names sides =
    let long = moved_long (length names) (rising_numbers names) (rising_names_moved names) in
    subst (λ n. IsPermutation (numbers_below n) (free_numbers chosen (rising_numbers names) sides)) long (completed_moved (length (rising_numbers names)) _)

-- ---- the orders

pub msb_first_moved : (names : List (List ℕ)) (sides : List IndexedNetlistModel) → IsPermutation (numbers_below (length names)) (msb_first_numbers names sides)
unfolding msb_first_numbers
msb_first_moved names sides =
    let labels = group_labels (length names) sides in
    let order = grouped labels (falling_numbers names) in
    IsPermutation-trans (numbers_below (length names)) order (msb_first_numbers names sides)
    (IsPermutation-trans (numbers_below (length names)) (falling_numbers names) order (falling_moved names) (grouped_moved labels (falling_numbers names)))
    (first_moved (selectors_of (length names) sides) order)

pub force_groups_moved : (names : List (List ℕ)) (sides : List IndexedNetlistModel) → IsPermutation (numbers_below (length names)) (force_groups_numbers names sides)
unfolding force_groups_numbers
force_groups_moved names sides =
    let labels = group_labels (length names) sides in
    let order = free_numbers (selectors_of (length names) sides) (rising_numbers names) sides in
    IsPermutation-trans (numbers_below (length names)) order (force_groups_numbers names sides) (free_moved (selectors_of (length names) sides) names sides) (grouped_moved labels order)

pub weights_moved : (names : List (List ℕ)) (sides : List IndexedNetlistModel) → IsPermutation (numbers_below (length names)) (weights_numbers names sides)
unfolding weights_numbers
weights_moved names sides =
    let labels = group_labels (length names) sides in
    let order = completed (length names) (weighed_below (length names) sides) in
    IsPermutation-trans (numbers_below (length names)) order (weights_numbers names sides) (completed_moved (length names) (weighed_below (length names) sides)) (grouped_moved labels order)
