-- Groups of variables: those that exclusive ors of two of them join.
use Rattle.std.specs.Prelude.{ℕ, ◌*◌, ◌==◌, nat_lt, nat_le, if◌then◌else◌, ◌&&◌, not, List, [], ◌∷◌, map, fold, filter, length, replicate}
use Rattle.std.specs.Prelude.{slice_index, Option, Some, None, Bool, false}
use Rattle.net_order.specs.Force.{numbers_below, with_added}
use Rattle.net_order.specs.Index.{rising}
use Rattle.group_order.specs.Sides.{IndexedNetlistModel, first_places}
use Rattle.group_order.specs.SmallFunctions.{xor_pairs}
use Rattle.group_order.specs.declared.small_functions.XorPair.{XorPair}

-- ---- pairs without repetitions

-- Whether this pair is the same as the last one.
abbrev pub is_pair : Option XorPair → XorPair → Bool
is_pair None p = false
is_pair (Some q) p = (q.low == p.low) && (q.high == p.high)

-- Sorted pairs without repetitions, if the one before them is given.
abbrev pub once : Option XorPair → List XorPair → List XorPair
once last [] = []
once last (p ∷ ps) = if is_pair last p then once last ps else p ∷ once (Some p) ps

-- The pairs by their first variable, then by their second, without repetitions.
unfoldable pub sorted_pairs : List XorPair → List XorPair
sorted_pairs pairs = once None (rising (λ p. p.low) (rising (λ p. p.high) pairs))

-- ---- hubs

-- For each variable the number of pairs that it is in.
unfoldable pub pair_counts : ℕ → List XorPair → List ℕ
pair_counts count pairs = fold (λ t p. with_added 1 t (p.low ∷ p.high ∷ [])) (replicate count 0) pairs

-- A hub is in more than two pairs, and in at least a third of all.
abbrev pub is_hub : ℕ → ℕ → Bool
is_hub total count = nat_lt 2 count && nat_le total (count * 3)

-- Neither variable of the pair is a hub. The list has the number of pairs of each variable.
abbrev pub has_no_hub : ℕ → List ℕ → XorPair → Bool
has_no_hub total counts p = not (is_hub total (slice_index counts p.low)) && not (is_hub total (slice_index counts p.high))

-- The pairs without hubs. Only these join groups.
unfoldable pub joining_pairs : ℕ → List XorPair → List XorPair
joining_pairs count pairs = filter (has_no_hub (length pairs) (pair_counts count pairs)) pairs

-- ---- groups

-- A label, after `from` was renamed to `to`.
abbrev pub renamed : (from to label : ℕ) → ℕ
renamed from to label = if label == from then to else label

-- The labels, after those of the pair's two variables were made one.
abbrev pub joined : List ℕ → XorPair → List ℕ
joined labels p = if slice_index labels p.high == slice_index labels p.low then labels else map (renamed (slice_index labels p.high) (slice_index labels p.low)) labels

-- For each variable the label of its group: two variables have the same label if pairs without hubs lead from one to the other.
unfoldable pub group_labels : ℕ → List IndexedNetlistModel → List ℕ
group_labels count sides = fold joined (numbers_below count) (joining_pairs count (sorted_pairs (xor_pairs sides)))

-- For each variable the first place of its group in the order.
unfoldable pub group_places : List ℕ → List ℕ → List ℕ
group_places labels order = map (slice_index (first_places labels (replicate (length labels) (length order)) 0 order)) labels

-- The order with the variables of each group moved together, to where the first of them is. Within a group the order is unchanged.
unfoldable pub grouped : List ℕ → List ℕ → List ℕ
grouped labels order = rising (slice_index (group_places labels order)) order
