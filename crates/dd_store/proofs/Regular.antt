-- Lists of pairs, and the lists of what nodes have of them.
use Rattle.std.proofs.Common.{◌≡◌, ℕ, ◌<◌, List, length, get_or, sym, ◌∙◌, ap, subst}
use Rattle.std.proofs.lemmas.List.{get_or-map, length-map}
use Rattle.std.proofs.lemmas.Option.{slice_get-map}
use Rattle.std.specs.Option.{option_map}
use Rattle.dd_store.specs.Graph.{Pair}
use Rattle.dd_store.specs.Complements.{regular_pair}
use Rattle.slot_table.specs.Lists.{IsIn}
use Rattle.dd_store.specs.Levels.{regular_list}
use Rattle.dd_store.proofs.Places.{mapped}

pub length-regular : (list : List Pair) → length (regular_list list) ≡ length list
length-regular list = length-map list (λ (p : Pair). regular_pair p.0 p.1)

-- reading at a place
pub regular_read : (list : List Pair) (n : ℕ) (p : Pair) → n < length list → p ≡ get_or list n p
    → regular_pair p.0 p.1 ≡ get_or (regular_list list) n (regular_pair p.0 p.1)
regular_read list n p lt is =
    ap (λ (q : Pair). regular_pair q.0 q.1) is ∙ sym (get_or-map (λ (q : Pair). regular_pair q.0 q.1) list n p (regular_pair p.0 p.1) lt)

-- what is in a list is there as a node has it
pub in_regular : (list : List Pair) (p : Pair) → IsIn list p → IsIn (regular_list list) (regular_pair p.0 p.1)
in_regular list p h = (h.0, slice_get-map (λ (q : Pair). regular_pair q.0 q.1) list h.0 ∙ ap (option_map (λ (q : Pair). regular_pair q.0 q.1)) h.1)

-- what is there as a node has it comes from a pair of the list
pub of_regular : (list : List Pair) (q : Pair) → IsIn (regular_list list) q → (p : Pair) × IsIn list p × (regular_pair p.0 p.1 ≡ q)
of_regular list q h = let w = mapped (λ (p : Pair). regular_pair p.0 p.1) list h.0 q h.1 in (w.0, (h.0, w.1), w.2)

-- what holds of each pair of a list as a node has it
pub each_regular : (P : Pair → Type 0) (list : List Pair) → ((p : Pair) → IsIn list p → P (regular_pair p.0 p.1)) → (q : Pair) → IsIn (regular_list list) q → P q
each_regular P list f q h = let w = of_regular list q h in subst P w.2 (f w.0 w.1)

-- a list whose pairs are in another
pub regular_inside : (list more : List Pair) → ((p : Pair) → IsIn list p → IsIn more p) → (q : Pair) → IsIn (regular_list list) q → IsIn (regular_list more) q
regular_inside list more f = each_regular (IsIn (regular_list more)) list (λ p h. in_regular more p (f p h))
