-- Signals that are functions of at most two variables.
use Rattle.std.specs.Prelude.{ℕ, ◌==◌, min, max, if◌then◌else◌, ◌&&◌, ◌||◌, not, List, [], ◌∷◌, ◌++◌, map, fold, slice_get, slice_set, slice_index_or}
use Rattle.std.specs.Prelude.{Option, Some, None, Bool, true, false}
use Rattle.net_bench.specs.declared.netlist.GateLine.{GateLine}
use Rattle.net_bench.specs.Labels.{value_of}
use Rattle.group_order.specs.Sides.{IndexedNetlistModel}
use Rattle.group_order.specs.declared.small_functions.SmallFunction.{SmallFunction}
use Rattle.group_order.specs.declared.small_functions.Support.{Support}
use Rattle.group_order.specs.declared.small_functions.Support.TheVariants.{Nothing, One, Two, More}
use Rattle.group_order.specs.declared.small_functions.XorPair.{XorPair}

-- ---- support

-- The support with one more variable.
abbrev pub with_variable : Support → ℕ → Support
with_variable Nothing v = One v
with_variable (One u) v = if u == v then One u else Two (min u v) (max u v)
with_variable (Two low high) v = if (low == v) || (high == v) then Two low high else More
with_variable More v = More

-- The support with the variables of one more operand.
abbrev pub with_support_of : Support → Option SmallFunction → Support
with_support_of support None = More
with_support_of support (Some f) = with_variable (with_variable support f.low) f.high

-- The variables of a gate's operands, as far as they are at most two.
abbrev pub support_of : List (Option SmallFunction) → GateLine → Support
support_of smalls g = fold (λ support s. with_support_of support (slice_index_or smalls s None)) Nothing g.operands

-- ---- truth tables

-- The value if the variable `low` has the value `low`, and `high` the value `high`.
abbrev pub bit_at : SmallFunction → Bool → Bool → Bool
bit_at f low high = if low then (if high then f.at11 else f.at10) else (if high then f.at01 else f.at00)

-- The value of a function if the variable `first` has the value `low`, and any other the value `high`.
abbrev pub value_among : ℕ → Bool → Bool → SmallFunction → Bool
value_among first low high f = bit_at f (if f.low == first then low else high) (if f.high == first then low else high)

-- The same of an operand.
abbrev pub operand_value : ℕ → Bool → Bool → Option SmallFunction → Bool
operand_value first low high None = false
operand_value first low high (Some f) = value_among first low high f

-- The same of operands.
abbrev pub operand_values : List (Option SmallFunction) → ℕ → Bool → Bool → List ℕ → List Bool
operand_values smalls first low high operands = map (λ s. operand_value first low high (slice_index_or smalls s None)) operands

-- The value of a gate if the variable `first` has the value `low`, and any other the value `high`.
abbrev pub gate_value : List (Option SmallFunction) → GateLine → ℕ → Bool → Bool → Bool
gate_value smalls g first low high = value_of g.kind (operand_values smalls first low high g.operands)

-- A gate as a function of these two variables, or of one that is both.
abbrev pub function_of : List (Option SmallFunction) → GateLine → (low high : ℕ) → SmallFunction
function_of smalls g low high = record {
  low = low;
  high = high;
  at00 = gate_value smalls g low false false;
  at01 = gate_value smalls g low false true;
  at10 = gate_value smalls g low true false;
  at11 = gate_value smalls g low true true;
}

-- A gate as a function of the variables of its operands, if these are one or two.
abbrev pub function_over : List (Option SmallFunction) → GateLine → Support → Option SmallFunction
function_over smalls g Nothing = None
function_over smalls g (One v) = Some (function_of smalls g v v)
function_over smalls g (Two low high) = Some (function_of smalls g low high)
function_over smalls g More = None

-- A variable as a function of itself.
abbrev pub own_function : Option ℕ → Option SmallFunction
own_function None = None
own_function (Some v) = Some (record { low = v; high = v; at00 = false; at01 = false; at10 = true; at11 = true })

-- The functions with that of one more gate.
abbrev pub with_function_of : List (Option SmallFunction) → Option GateLine → List (Option SmallFunction)
with_function_of smalls None = smalls
with_function_of smalls (Some g) = slice_set smalls g.out (function_over smalls g (support_of smalls g))

-- For each signal its function, if it has at most two variables: that of a variable is itself; a gate has one if its operands have.
unfoldable pub small_functions : IndexedNetlistModel → List (Option SmallFunction)
small_functions side = fold (λ t p. with_function_of t (slice_get side.net.gates p)) (map own_function side.variables) side.by_rank

-- ---- XOR of two variables

-- The function is the exclusive or of two variables, or its complement.
abbrev pub is_xor : SmallFunction → Bool
is_xor f = not (f.low == f.high) && ((not f.at00 && f.at01 && f.at10 && not f.at11) || (f.at00 && not f.at01 && not f.at10 && f.at11))

-- The pair of variables of which a function is the exclusive or, or its complement; None if it is none.
abbrev pub xor_pair : Option SmallFunction → Option XorPair
xor_pair None = None
xor_pair (Some f) = if is_xor f then Some (record { low = f.low; high = f.high }) else None

-- The pairs with one more at the end, if there is one.
abbrev pub with_pair_of : List XorPair → Option XorPair → List XorPair
with_pair_of pairs None = pairs
with_pair_of pairs (Some p) = pairs ++ p ∷ []

-- The pairs with those of one more netlist's gates, in the order of the text, with repetitions.
abbrev pub with_pairs_on : List XorPair → IndexedNetlistModel → List XorPair
with_pairs_on pairs side = fold (λ ps g. with_pair_of ps (xor_pair (slice_index_or (small_functions side) g.out None))) pairs side.net.gates

-- The pairs of all netlists.
unfoldable pub xor_pairs : List IndexedNetlistModel → List XorPair
xor_pairs sides = fold with_pairs_on [] sides
