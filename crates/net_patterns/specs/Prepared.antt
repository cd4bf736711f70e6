-- A netlist that is prepared for evaluation at blocks of assignments.
use Rattle.std.specs.Prelude.{◌≡◌, ℕ, List, length}
use Rattle.net_bench.specs.Circuit.{Net, circuit, variables_of}
use Rattle.net_simulate.specs.Schedules.{Equation, IsSchedule}

-- a netlist with the level of each variable and the value of each signal
pub record SimulatorModel : Type 0 where
  pub net : Net
  pub levels : List ℕ
  pub values : List (List ℕ)

-- the gates are those of the netlist, and there is a level for each variable and a value for each signal
pub record IsPrepared (n : Net) (gates : List Equation) (levels : List ℕ) (values : List (List ℕ)) : Type 0 where
  pub schedule : IsSchedule n gates
  pub each_variable : length levels ≡ length (variables_of (circuit n))
  pub each_signal : length values ≡ length n.names
