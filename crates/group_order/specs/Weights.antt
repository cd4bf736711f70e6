-- Dynamic weight assignment, after Minato, Ishiura and Yajima, "Shared binary decision diagram with attributed edges
-- for efficient Boolean function manipulation", DAC 1990. The gates and variables below one root are numbered: first
-- the gates by falling rank, so that the root is 0, then the variables in declared order. Variables that are placed are
-- dead, and so are gates without live operands.
use Rattle.std.specs.Prelude.{ℕ, zero, suc, ◌+◌, ◌-◌, ◌/◌, ◌^◌, ◌==◌, ◌&&◌, not, min, nat_lt, nat_le, if◌then◌else◌, List, [], ◌∷◌, ◌++◌, Bool, true, false, filter, fold, length, map}
use Rattle.std.specs.Prelude.{replicate, reverse, slice_index, slice_set, slice_index_or}
use Rattle.std.specs.List.{remove}
use Rattle.net_order.specs.Force.{numbers_below, u64_max}
use Rattle.net_order.specs.Index.{rising}

-- ---- one assignment

-- Whether the gate or variable of this number is dead.
abbrev pub is_dead : List Bool → ℕ → Bool
is_dead dead k = slice_index_or dead k false

-- Whether all of these are dead.
abbrev pub all_dead : List Bool → List ℕ → Bool
all_dead dead [] = true
all_dead dead (k ∷ ks) = is_dead dead k && all_dead dead ks

-- A gate is dead if all its operands are.
abbrev pub with_dead_gate : List (List ℕ) → List Bool → ℕ → List Bool
with_dead_gate operands dead g = if all_dead dead (slice_index_or operands g []) then slice_set dead g true else dead

-- The dead ones, if the gates come by falling rank: from the last on, each comes after its operands.
abbrev pub with_dead_gates : List (List ℕ) → List Bool → List ℕ → List Bool
with_dead_gates operands dead gates = fold (with_dead_gate operands) dead (reverse gates)

-- Those that are not dead.
abbrev pub living : List Bool → List ℕ → List ℕ
living dead ks = filter (λ k. not (is_dead dead k)) ks

-- The part of a weight for each of `count`, rounded down.
abbrev pub part_of : (weight count : ℕ) → ℕ
part_of weight count = if count == 0 then 0 else weight / count

-- The weights after a part was added for an operand that is not dead.
abbrev pub with_part : List Bool → ℕ → List ℕ → ℕ → List ℕ
with_part dead part weights k = if is_dead dead k then weights else slice_set weights k (min (slice_index weights k + part) u64_max)

-- A gate gives its weight to those of its operands that are not dead, in equal parts; one that is there twice gets two.
abbrev pub with_parts : List (List ℕ) → List Bool → List ℕ → ℕ → List ℕ
with_parts operands dead weights g =
    fold (with_part dead (part_of (slice_index weights g) (length (living dead (slice_index_or operands g []))))) (slice_set weights g 0) (slice_index_or operands g [])

-- That of two places whose number is heavier; the first if both weigh the same.
abbrev pub heavier : List ℕ → List ℕ → ℕ → ℕ → ℕ
heavier weights ks best place = if nat_lt (slice_index weights (slice_index ks best)) (slice_index weights (slice_index ks place)) then place else best

-- The place of the heaviest of these numbers, the first of several.
unfoldable pub heaviest : List ℕ → List ℕ → ℕ
heaviest weights ks = fold (heavier weights ks) 0 (numbers_below (length ks))

-- ---- all assignments of a root

-- The state of the gates and variables below a root: which are dead; the weights, which are 0 between two assignments;
-- the gates that are not dead; and the variables that are not placed.
pub record Weighing : Type 0 where
  pub dead : List Bool
  pub weights : List ℕ
  pub gates : List ℕ
  pub live : List ℕ

-- The weight of a root.
abbrev pub root_weight : ℕ
root_weight = 2 ^ 60

-- From so many visits of gates on, weights are assigned once for each root.
abbrev pub max_visits : ℕ
max_visits = 1000000

-- The number of visits after one more gate: it counts once, and once more for each 32 of its operands, so that visits bound the time.
abbrev pub with_visit : List (List ℕ) → ℕ → ℕ → ℕ
with_visit operands visits g = min (visits + (length (slice_index_or operands g []) / 32 + 1)) u64_max

-- The number of visits, with those of one assignment.
abbrev pub visits_after : List (List ℕ) → Weighing → ℕ → ℕ
visits_after operands w visits = fold (with_visit operands) visits w.gates

-- Before the first assignment.
unfoldable pub begun : (gates variables : ℕ) → Weighing
begun gates variables = record {
  dead = replicate (min (gates + variables) u64_max) false;
  weights = replicate (min (gates + variables) u64_max) 0;
  gates = numbers_below gates;
  live = map (λ k. min (gates + k) u64_max) (numbers_below variables);
}

-- The state after one assignment of weights.
unfoldable pub assigned : List (List ℕ) → Weighing → Weighing
assigned operands w =
    let dead = with_dead_gates operands w.dead w.gates in
    let gates = living dead w.gates in
    record {
      dead = dead;
      weights = fold (with_parts operands dead) (slice_set w.weights 0 root_weight) gates;
      gates = gates;
      live = w.live;
    }

-- The heaviest variable.
abbrev pub heaviest_of : Weighing → ℕ
heaviest_of w = slice_index w.live (heaviest w.weights w.live)

-- The state after the heaviest variable was placed, and all weights cleared.
unfoldable pub without_heaviest : Weighing → Weighing
without_heaviest w = record {
  dead = slice_set w.dead (heaviest_of w) true;
  weights = fold (λ t k. slice_set t k 0) w.weights w.live;
  gates = w.gates;
  live = remove w.live (heaviest w.weights w.live);
}

-- The variables that are not placed, by falling weight; those of equal weight in declared order.
unfoldable pub all_by_weight : Weighing → List ℕ
all_by_weight w = rising (λ k. u64_max - slice_index w.weights k) w.live

-- The variables in the order in which they were placed, by number, and the number of visits.
pub record Placing : Type 0 where
  pub order : List ℕ
  pub visits : ℕ

-- At most so many assignments: after each the heaviest variable is placed, or all that remain if there were too many visits.
unfoldable pub turns : List (List ℕ) → ℕ → Weighing → Placing → Placing
turns operands zero w p = p
turns operands (suc k) w p =
    let a = assigned operands w in
    let visits = visits_after operands a p.visits in
    if nat_le max_visits visits then record { order = p.order ++ all_by_weight a; visits = visits }
    else turns operands k (without_heaviest a) (record { order = p.order ++ heaviest_of a ∷ []; visits = visits })
