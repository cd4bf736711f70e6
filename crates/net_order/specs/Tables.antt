-- What is true of the tables of the code.
use Rattle.std.specs.Prelude.{◌≡◌, ◌⊎◌, ◌<◌, ℕ, Bool, true, false, List, [], ◌∷◌, fold, length, Some, slice_index, slice_index_or, All}
use Rattle.std.specs.List.{AllZip}
use Rattle.net_bench.specs.Circuit.{Circuit, Net, IsNet, circuit, is_name_in, variables_of, with_name}
use Rattle.net_order.specs.declared.variable_groups.VariableGroup.{VariableGroup}
use Rattle.net_order.specs.declared.variable_groups.VariableGroup.TheVariants.{Inputs, Registers, BelowOutputs}
use Rattle.net_names.specs.declared.order.Match.{Match}
use Rattle.net_names.specs.declared.order.Match.TheVariants.{Name, Position}
use Rattle.net_names.specs.declared.order.Order.{Order}
use Rattle.net_names.specs.declared.order.Order.TheVariants.{Listed}
use Rattle.net_names.specs.declared.order.OrderFault.{OrderFault}
use Rattle.net_names.specs.declared.order.OrderFault.TheVariants.{NotAPermutation, TooManyInputs, OutOfMemory}
use Rattle.net_order.specs.Order.{HasLevels, NamingModel, NamedNetlistModel, bad_place, is_member, max_variables, met, named, partner, registers_of}

-- The variables of a group.
abbrev pub group_variables : VariableGroup → Circuit → List ℕ
group_variables Inputs c = c.inputs
group_variables Registers c = registers_of c
group_variables BelowOutputs c = met c

-- By position, a netlist has as many variables as the one that names them.
abbrev pub AreMatched : Match → Circuit → Circuit → Type 0
AreMatched Name name_source c = Unit {0}
AreMatched Position name_source c = length (variables_of c) ≡ length (variables_of name_source)

-- The table of partners, by signal, is right. It is read only if signals are matched by position.
abbrev pub ArePartners : Match → Circuit → Circuit → List ℕ → Type 0
ArePartners Name name_source c partners = Unit {0}
ArePartners Position name_source c partners =
    (length partners ≡ length c.names) × ((s : ℕ) → s < length c.names
    → slice_index partners s ≡ partner (variables_of c) (variables_of name_source) s)

-- A side of a pairing: a netlist, the one that names its variables, and their table of partners are as they should be.
pub record IsSide (how : Match) (name_source net : Net) (partners : List ℕ) : Type 0 where
  pub sound : IsNet net
  pub naming : IsNet name_source
  pub matched : AreMatched how (circuit name_source) (circuit net)
  pub table : ArePartners how (circuit name_source) (circuit net) partners

-- The variables of a side have names among these.
abbrev pub IsKnown : List (List ℕ) → NamedNetlistModel → Type 0
IsKnown names side = (s : ℕ) → is_member s (variables_of side.net) ≡ true → is_name_in names (named side s) ≡ true

-- This is true of each side.
abbrev pub AreKnown : List (List ℕ) → List NamedNetlistModel → Type 0
AreKnown names [] = Unit {0}
AreKnown names (side ∷ sides) = IsKnown names side × AreKnown names sides

-- Names, and then those of the others that are not there yet, each once.
abbrev pub with_names : List (List ℕ) → List (List ℕ) → List (List ℕ)
with_names names more = fold with_name names more

-- Why there is no table of these names: memory ran out, or they are too many.
abbrev pub IsOverflow : List (List ℕ) → OrderFault → Type 0
IsOverflow names fault = (fault ≡ OutOfMemory) ⊎ ((fault ≡ TooManyInputs) × (max_variables < length names))

-- The flags are true exactly for the variables of the order.
pub record AreMembershipFlags (seen : List Bool) (order : List ℕ) : Type 0 where
  pub low : (v : ℕ) → is_member v order ≡ true → v < length seen
  pub each : (v : ℕ) → v < length seen → slice_index_or seen v false ≡ is_member v order

-- Signals of one netlist that are to be compared.
pub record ComparedSignalsModel : Type 0 where
  pub net : Circuit
  pub signals : List ℕ

-- The flags are true exactly for these signals of the netlist.
pub record AreComparedSignals (net : Net) (signals : List ℕ) (seen : List Bool) : Type 0 where
  pub sound : IsNet net
  pub known : All (λ s. s < length net.names) signals
  pub len : length seen ≡ length net.names
  pub each : (s : ℕ) → s < length net.names → slice_index_or seen s false ≡ is_member s signals

-- Each side's variables have their levels, if the names are in this order.
pub record AreLevels (names : List (List ℕ)) (sides : List NamedNetlistModel) (p : NamingModel) : Type 0 where
  pub levels : List (List ℕ)
  pub each : AllZip (HasLevels names) sides levels
  pub first : p.first ≡ slice_index_or levels 0 []
  pub second : p.second ≡ slice_index_or levels 1 []
  pub given : p.given ≡ slice_index_or levels 2 []

-- Why there is no table of these variables in this order: memory ran out, or a list does not fit.
abbrev pub IsOrderingFault : List (List ℕ) → Order → OrderFault → Type 0
IsOrderingFault variables order fault =
    (fault ≡ OutOfMemory) ⊎ ((place : ℕ) × (names : List (List ℕ)) × (fault ≡ NotAPermutation place) × (order ≡ Listed names)
    × (bad_place variables [] names 1 ≡ Some place))
