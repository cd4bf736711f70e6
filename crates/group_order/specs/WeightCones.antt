-- What is below each root of a netlist and below no root before it, and the order by weights.
use Rattle.std.specs.Prelude.{ℕ, ◌+◌, ◌-◌, ◌^◌, ◌==◌, min, nat_lt, if◌then◌else◌, List, [], ◌∷◌, ◌++◌, Bool, true, false, filter, fold, length, map}
use Rattle.std.specs.Prelude.{replicate, reverse, slice_get, slice_index, slice_set, slice_index_or, Option, Some, None}
use Rattle.net_bench.specs.declared.netlist.GateLine.{GateLine}
use Rattle.net_bench.specs.Circuit.{Net, circuit, variables_of}
use Rattle.net_order.specs.Force.{numbers_below, u64_max}
use Rattle.net_order.specs.Index.{rising}
use Rattle.net_order.specs.Order.{roots}
use Rattle.group_order.specs.Sides.{IndexedNetlistModel}
use Rattle.group_order.specs.Weights.{Placing, begun, is_dead, turns}

-- ---- roots

-- The roots (outputs and next states) by falling rank, those of equal rank in their order.
unfoldable pub falling_roots : Net → List ℕ
falling_roots n = rising (λ s. 2 ^ 32 - 1 - slice_index n.ranks s) (roots (circuit n))

-- The signal gets this root, unless it has an earlier one.
abbrev pub with_root : ℕ → List ℕ → ℕ → List ℕ
with_root root table s = slice_set table s (min root (slice_index table s))

-- Each root gets itself; they are numbered from k on.
abbrev pub with_roots : ℕ → List ℕ → List ℕ → List ℕ
with_roots k table [] = table
with_roots k table (s ∷ ss) = with_roots (k + 1) (with_root k table s) ss

-- A gate's operands get the root of the gate, unless they have earlier ones.
abbrev pub with_operands_root : List ℕ → Option GateLine → List ℕ
with_operands_root table None = table
with_operands_root table (Some g) = fold (with_root (slice_index table g.out)) table g.operands

-- For each signal the first root that it is below; the number of roots if there is none.
unfoldable pub root_table : IndexedNetlistModel → List ℕ → List ℕ
root_table side signals =
    fold (λ t p. with_operands_root t (slice_get side.net.gates p)) (with_roots 0 (replicate (length side.net.names) (length signals)) signals) (reverse side.by_rank)

-- ---- gates and variables by root

-- For each signal its root, and its number among the gates and variables of this root; for each root its gates and its variables.
pub record Cones : Type 0 where
  pub roots : List ℕ
  pub numbers : List ℕ
  pub gates : List (List ℕ)
  pub variables : List (List ℕ)

-- One more number in the list at a place.
abbrev pub pushed : List (List ℕ) → ℕ → ℕ → List (List ℕ)
pushed lists place k = slice_set lists place (slice_index_or lists place [] ++ k ∷ [])

-- How many numbers the list at a place has.
abbrev pub count_at : List (List ℕ) → ℕ → ℕ
count_at lists place = length (slice_index_or lists place [])

-- The cones with one more gate, if there is one, which is at this place.
abbrev pub with_gate : Cones → ℕ → Option GateLine → Cones
with_gate c place None = c
with_gate c place (Some g) = record {
  roots = c.roots;
  numbers = slice_set c.numbers g.out (count_at c.gates (slice_index c.roots g.out));
  gates = pushed c.gates (slice_index c.roots g.out) place;
  variables = c.variables;
}

-- The cones with one more variable that is not placed: its number comes after those of the gates.
abbrev pub with_live : Cones → ℕ → ℕ → Cones
with_live c v s = record {
  roots = c.roots;
  numbers = slice_set c.numbers s (min (count_at c.gates (slice_index c.roots s) + count_at c.variables (slice_index c.roots s)) u64_max);
  gates = c.gates;
  variables = pushed c.variables (slice_index c.roots s) v;
}

-- A variable that was placed before has no root.
abbrev pub without_root : Cones → ℕ → Cones
without_root c s = record { roots = slice_set c.roots s u64_max; numbers = c.numbers; gates = c.gates; variables = c.variables }

-- The cones with one more variable, if the netlist has it.
abbrev pub with_variable : List Bool → Cones → ℕ → Option ℕ → Cones
with_variable placed c v None = c
with_variable placed c v (Some s) = if is_dead placed v then without_root c s else with_live c v s

-- The table with the signal of one more variable.
abbrev pub with_signal : List (Option ℕ) → ℕ → Option ℕ → List (Option ℕ)
with_signal table s None = table
with_signal table s (Some v) = slice_set table v (Some s)

-- For each variable its signal in a netlist; None if the netlist does not have it.
unfoldable pub signals_by_variable : ℕ → IndexedNetlistModel → List (Option ℕ)
signals_by_variable count side = fold (λ t s. with_signal t s (slice_index_or side.variables s None)) (replicate count None) (variables_of (circuit side.net))

-- The roots, without gates and variables.
abbrev pub empty_cones : IndexedNetlistModel → List ℕ → Cones
empty_cones side signals = record {
  roots = root_table side signals;
  numbers = replicate (length side.net.names) 0;
  gates = replicate (length signals) [];
  variables = replicate (length signals) [];
}

-- The cones with all gates, by falling rank.
abbrev pub with_gates : IndexedNetlistModel → Cones → Cones
with_gates side c = fold (λ d p. with_gate d p (slice_get side.net.gates p)) c (reverse side.by_rank)

-- The cones with all variables, in declared order.
abbrev pub with_variables : IndexedNetlistModel → List Bool → Cones → Cones
with_variables side placed c = fold (λ d v. with_variable placed d v (slice_index_or (signals_by_variable (length placed) side) v None)) c (numbers_below (length placed))

-- What is below each root and below none before it, without the variables that were placed before.
unfoldable pub cones_of : IndexedNetlistModel → List Bool → Cones
cones_of side placed = with_variables side placed (with_gates side (empty_cones side (falling_roots side.net)))

-- ---- operands

-- The numbers of those operands of a gate that have this root.
abbrev pub numbers_of : Cones → ℕ → GateLine → List ℕ
numbers_of c root g = map (slice_index c.numbers) (filter (λ s. slice_index c.roots s == root) g.operands)

-- The lists with that of one more gate.
abbrev pub with_numbers : Cones → ℕ → List (List ℕ) → Option GateLine → List (List ℕ)
with_numbers c root lists None = lists
with_numbers c root lists (Some g) = lists ++ numbers_of c root g ∷ []

-- For each gate of a root, the numbers of those operands that have the same root. The others get no weight.
unfoldable pub operands_of : IndexedNetlistModel → Cones → ℕ → List (List ℕ)
operands_of side c root = fold (λ ls p. with_numbers c root ls (slice_get side.net.gates p)) [] (slice_index_or c.gates root [])

-- ---- the order

-- The variables placed so far, in their order; for each variable whether it is placed; and the number of visits of gates.
pub record Placed : Type 0 where
  pub order : List ℕ
  pub placed : List Bool
  pub visits : ℕ

-- The variables of these numbers. The first numbers are those of so many gates.
abbrev pub numbered_variables : List ℕ → ℕ → List ℕ → List ℕ
numbered_variables variables gates ks = map (λ k. slice_index variables (k - gates)) ks

-- The flags with one more variable placed.
abbrev pub with_placed : List Bool → ℕ → List Bool
with_placed placed v = slice_set placed v true

-- The variables of a root in the order of their placing, by number.
abbrev pub turns_of : IndexedNetlistModel → Cones → ℕ → ℕ → Placing
turns_of side c root visits =
    turns (operands_of side c root) (count_at c.variables root) (begun (length (operands_of side c root)) (count_at c.variables root)) (record { order = []; visits = visits })

-- The variables of a root in the order of their placing.
abbrev pub placed_of : IndexedNetlistModel → Cones → ℕ → Placing → List ℕ
placed_of side c root p = numbered_variables (slice_index_or c.variables root []) (length (operands_of side c root)) p.order

-- The placing with the variables of one more root.
abbrev pub with_cone : IndexedNetlistModel → Cones → Placed → ℕ → Placed
with_cone side c p root =
    let turned = turns_of side c root p.visits in
    let variables = placed_of side c root turned in
    record { order = p.order ++ variables; placed = fold with_placed p.placed variables; visits = turned.visits }

-- The placing with the variables of one more root, if it has any.
abbrev pub with_root_variables : IndexedNetlistModel → Cones → Placed → ℕ → Placed
with_root_variables side c p root = if count_at c.variables root == 0 then p else with_cone side c p root

-- The placing with those variables of one more netlist that were not placed before, root by root.
unfoldable pub with_side_placed : Placed → IndexedNetlistModel → Placed
with_side_placed p side = fold (with_root_variables side (cones_of side p.placed)) p (numbers_below (length (cones_of side p.placed).gates))

-- The two netlists, that of fewer gates first; the first of both if they have equally many.
abbrev pub smaller_first : IndexedNetlistModel → IndexedNetlistModel → List IndexedNetlistModel
smaller_first a b = if nat_lt (length b.net.gates) (length a.net.gates) then b ∷ a ∷ [] else a ∷ b ∷ []

-- The variables below roots by dynamic weight assignment.
unfoldable pub weighed : ℕ → IndexedNetlistModel → IndexedNetlistModel → List ℕ
weighed count a b = (fold with_side_placed (record { order = []; placed = replicate count false; visits = 0 }) (smaller_first a b)).order
