-- The fan-out of variables, and which of them are selectors: those whose fan-out is far above that of most others.
use Rattle.std.specs.Prelude.{ℕ, ◌+◌, ◌*◌, ◌/◌, ◌==◌, min, max, nat_lt, nat_le, if◌then◌else◌, List, map, fold, length, replicate, reverse}
use Rattle.std.specs.Prelude.{slice_get, slice_index, slice_set, slice_index_or, Option, Some, None, Bool, true, false}
use Rattle.net_bench.specs.declared.netlist.GateLine.{GateLine}
use Rattle.net_order.specs.Force.{numbers_below, u64_max}
use Rattle.net_order.specs.Index.{rising}
use Rattle.group_order.specs.Sides.{IndexedNetlistModel}
use Rattle.group_order.specs.declared.fan_out.Gap.{Gap}

-- ---- the variable whose value, or complement, a signal has

-- The signal of a gate of one operand gets the variable of its operand.
abbrev pub with_stand : List (Option ℕ) → GateLine → List (Option ℕ)
with_stand stands g = if length g.operands == 1 then slice_set stands g.out (slice_index_or stands (slice_index g.operands 0) None) else stands

-- The same for the gate at a place, if there is one.
abbrev pub with_stand_of : List (Option ℕ) → Option GateLine → List (Option ℕ)
with_stand_of stands None = stands
with_stand_of stands (Some g) = with_stand stands g

-- For each signal the variable that it has the value of, or the complement: a variable itself, or a gate of one operand above it.
unfoldable pub stands_for : IndexedNetlistModel → List (Option ℕ)
stands_for side = fold (λ t p. with_stand_of t (slice_get side.net.gates p)) side.variables side.by_rank

-- ---- fan-out

-- One more use of the variable.
abbrev pub with_use : List ℕ → Option ℕ → List ℕ
with_use counts None = counts
with_use counts (Some v) = slice_set counts v (min (slice_index counts v + 1) u64_max)

-- The uses by the operands of one more gate. A gate of one operand uses nothing: a gate that reads it uses its variable.
abbrev pub with_uses : List (Option ℕ) → List ℕ → GateLine → List ℕ
with_uses stands counts g = if length g.operands == 1 then counts else fold (λ t s. with_use t (slice_index_or stands s None)) counts g.operands

-- For each variable the number of its uses as an operand in a netlist, directly or through gates of one operand.
unfoldable pub uses_on : ℕ → IndexedNetlistModel → List ℕ
uses_on count side = fold (with_uses (stands_for side)) (replicate count 0) side.net.gates

-- For each number below `count` the greater of its entries in the two tables.
unfoldable pub greater_of : ℕ → List ℕ → List ℕ → List ℕ
greater_of count xs ys = map (λ v. max (slice_index xs v) (slice_index ys v)) (numbers_below count)

-- The fan-out of each variable: the number of its uses in the netlist that uses it most.
unfoldable pub fan_out : ℕ → List IndexedNetlistModel → List ℕ
fan_out count sides = fold (λ most side. greater_of count most (uses_on count side)) (replicate count 0) sides

-- ---- selectors

-- The wider of a gap and the one between two neighbours in the list of all fan-outs by falling size. It is the wider,
-- the greater the first is as a multiple of the second. The first gap has to be at least twofold.
abbrev pub wider : Option Gap → (above below : ℕ) → Option Gap
wider None above below = if nat_le (below * 2) above then Some (record { above = above; below = below }) else None
wider (Some gap) above below = if nat_lt (gap.above * below) (above * gap.below) then Some (record { above = above; below = below }) else Some gap

-- The numbers by falling size.
unfoldable pub by_falling_size : List ℕ → List ℕ
by_falling_size xs = reverse (rising (λ x. x) xs)

-- The widest gap so far, or the one between the numbers at a place and after it. A number 0 counts as 1.
abbrev pub wider_at : List ℕ → Option Gap → ℕ → Option Gap
wider_at falling best i = wider best (slice_index falling i) (max (slice_index falling (i + 1)) 1)

-- The widest gap in the upper half of these numbers, the first of several; None if no number is at least twice the next.
unfoldable pub widest_gap : List ℕ → Option Gap
widest_gap xs = fold (wider_at (by_falling_size xs)) None (numbers_below (length xs / 2))

-- A variable is a selector if its fan-out is above the gap.
abbrev pub is_selector : Option Gap → ℕ → Bool
is_selector None count = false
is_selector (Some gap) count = nat_le gap.above count

-- For each variable whether it is a selector.
unfoldable pub selectors : List ℕ → List Bool
selectors counts = map (is_selector (widest_gap counts)) counts

-- A sort key that puts selectors before all others.
abbrev pub selector_key : Bool → ℕ
selector_key true = 0
selector_key false = 1

-- The order with its selectors moved to the front.
unfoldable pub with_selectors_first : List Bool → List ℕ → List ℕ
with_selectors_first chosen order = rising (slice_index (map selector_key chosen)) order
