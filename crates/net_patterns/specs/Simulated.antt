-- Netlists of a naming that are evaluated at blocks of assignments.
use Rattle.std.specs.Prelude.{◌≡◌, ◌≢◌, ◌<◌, ℕ, Bool, true, List, map, length, Option, Some, None, ⊤}
use Rattle.net_bench.specs.Circuit.{Circuit, circuit, variables_of}
use Rattle.net_bench.specs.Labels.{bit_of}
use Rattle.net_order.specs.Order.{NamingModel, first_level, second_level, given_level}
use Rattle.net_simulate.specs.Columns.{bit_in_block, column}
use Rattle.net_patterns.specs.declared.sides.Sides.{Sides}
use Rattle.net_patterns.specs.Prepared.{SimulatorModel}

-- the simulator is that of this netlist, with the levels of its variables
pub record IsOf (c : Circuit) (level : ℕ → ℕ) (s : SimulatorModel) : Type 0 where
  pub netlist : circuit s.net ≡ c
  pub levels : s.levels ≡ map level (variables_of c)

-- the same for a condition, if there is one
abbrev pub IsOfCondition : Option Circuit → (ℕ → ℕ) → Option SimulatorModel → Type 0
IsOfCondition None level None = ⊤
IsOfCondition None level (Some s) = ⊥
IsOfCondition (Some c) level None = ⊥
IsOfCondition (Some c) level (Some s) = IsOf c level s

-- the simulators are those of two netlists and a condition, with the levels of a naming
pub record AreOf (a b : Circuit) (given : Option Circuit) (p : NamingModel) (sides : Sides) : Type 0 where
  pub first : IsOf a (first_level p) sides.first
  pub second : IsOf b (second_level p) sides.second
  pub condition : IsOfCondition given (given_level p) sides.given

-- the netlist and its levels are unchanged
pub record IsKept (old new : SimulatorModel) : Type 0 where
  pub net : new.net ≡ old.net
  pub levels : new.levels ≡ old.levels

-- the same for a condition, if there is one
abbrev pub IsKeptCondition : Option SimulatorModel → Option SimulatorModel → Type 0
IsKeptCondition None None = ⊤
IsKeptCondition None (Some new) = ⊥
IsKeptCondition (Some old) None = ⊥
IsKeptCondition (Some old) (Some new) = IsKept old new

-- the netlists, the condition and their levels are unchanged
pub record AreKept (old new : Sides) : Type 0 where
  pub first : IsKept old.first new.first
  pub second : IsKept old.second new.second
  pub condition : IsKeptCondition old.given new.given

-- a condition, if there is one, has an output
abbrev pub HaveOutput : Option SimulatorModel → Type 0
HaveOutput None = ⊤
HaveOutput (Some s) = 0 < length s.net.outputs

-- both are signals of the netlists
abbrev pub IsPairIn : Sides → ℕ × ℕ → Type 0
IsPairIn sides pair = (pair.0 < length sides.first.net.names) × (pair.1 < length sides.second.net.names)

-- in bit i the signals of a pair have different values, and the condition's block is 1
abbrev pub AreApart : Sides → (holds : List ℕ) → ℕ × ℕ → ℕ → Type 0
AreApart sides holds pair i =
    (bit_in_block i holds ≡ true) × (bit_of (column bit_in_block i sides.first.values) pair.0 ≢ bit_of (column bit_in_block i sides.second.values) pair.1)

-- the value of a pair's first signal in bit i
abbrev pub first_bit : Sides → ℕ × ℕ → ℕ → Bool
first_bit sides pair i = bit_of (column bit_in_block i sides.first.values) pair.0
