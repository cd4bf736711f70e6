-- The three orders of this crate.
use Rattle.std.specs.Prelude.{◌≡◌, ◌⊎◌, ℕ, Bool, List, [], ◌∷◌, length, Option}
use Rattle.std.specs.Borrow.{Bor}
use Rattle.net_bench.specs.Circuit.{Net, circuit}
use Rattle.net_names.specs.declared.order.Match.{Match}
use Rattle.net_names.specs.declared.order.Order.{Order}
use Rattle.net_names.specs.declared.order.Order.TheVariants.{Declared, Listed}
use Rattle.net_names.specs.declared.order.OrderFault.{OrderFault}
use Rattle.net_names.specs.declared.order.OrderFault.TheVariants.{OutOfMemory}
use Rattle.net_order.specs.Order.{IsPairing, IsRefused, NamingModel, condition, numbered}
use Rattle.group_order.specs.Sides.{IndexedNetlistModel, all_sides, completed}
use Rattle.group_order.specs.FanOut.{fan_out, selectors, with_selectors_first}
use Rattle.group_order.specs.Groups.{group_labels, grouped}
use Rattle.group_order.specs.NameKeys.{falling_numbers, rising_numbers}
use Rattle.group_order.specs.FreeForce.{free_numbers}
use Rattle.group_order.specs.WeightCones.{weighed}

-- For each variable whether it is a selector of these netlists.
abbrev pub selectors_of : ℕ → List IndexedNetlistModel → List Bool
selectors_of count sides = selectors (fan_out count sides)

-- By falling number at the end of names, then each group moved together, then selectors moved to the front.
unfoldable pub msb_first_numbers : List (List ℕ) → List IndexedNetlistModel → List ℕ
msb_first_numbers names sides = with_selectors_first (selectors_of (length names) sides) (grouped (group_labels (length names) sides) (falling_numbers names))

-- By FORCE without selectors, which begins by rising number; the selectors first, and then each group moved together.
unfoldable pub force_groups_numbers : List (List ℕ) → List IndexedNetlistModel → List ℕ
force_groups_numbers names sides = grouped (group_labels (length names) sides) (free_numbers (selectors_of (length names) sides) (rising_numbers names) sides)

-- The variables below the roots of the first two netlists, by dynamic weight assignment.
abbrev pub weighed_below : ℕ → List IndexedNetlistModel → List ℕ
weighed_below count [] = []
weighed_below count (a ∷ []) = []
weighed_below count (a ∷ b ∷ sides) = weighed count a b

-- By dynamic weight assignment, the variables below no root last, as declared, and then each group moved together.
unfoldable pub weights_numbers : List (List ℕ) → List IndexedNetlistModel → List ℕ
weights_numbers names sides = grouped (group_labels (length names) sides) (completed (length names) (weighed_below (length names) sides))

-- The order is the list of the variables' names that a rule gives by their numbers, for the declared names, the
-- netlists and the condition.
abbrev pub IsOrderBy : (List (List ℕ) → List IndexedNetlistModel → List ℕ) → Match → Net → Net → Option (Bor Net) → Order → Type 0
IsOrderBy rule how a b given order =
    (p : NamingModel) × IsPairing how (circuit a) (circuit b) (condition given) Declared p × (order ≡ Listed (numbered p.names (rule p.names (all_sides p a b given))))

-- Why there is no order: memory ran out, or there is no pairing in declared order.
abbrev pub IsOrderFault : Match → Net → Net → Option (Bor Net) → OrderFault → Type 0
IsOrderFault how a b given fault = (fault ≡ OutOfMemory) ⊎ IsRefused how (circuit a) (circuit b) (condition given) Declared fault
