-- The gates of a netlist in an order in which they can be evaluated.
use Rattle.std.specs.Prelude.{◌≡◌, ◌<◌, ◌≤◌, ◌⊎◌, ℕ, Bool, List, map, length, take, slice_index, slice_index_or, slice_range, All, Contains}
use Rattle.net_bench.specs.declared.netlist.GateLine.{GateLine}
use Rattle.net_bench.specs.declared.netlist.Kind.{Kind}
use Rattle.net_bench.specs.Circuit.{Net, rank_of}
use Rattle.net_bench.specs.Labels.{bit_of, value_of}
use Rattle.net_simulate.specs.declared.schedule.GateStep.{GateStep}

-- A gate without its line: its signal, what it computes, and its operands.
pub record Equation : Type 0 where
  pub out : ℕ
  pub kind : Kind
  pub operands : List ℕ

abbrev pub equation_of : GateLine → Equation
equation_of g = record { out = g.out; kind = g.kind; operands = g.operands }

-- the gate of a step, whose operands are a range of the list of all operands
abbrev pub equation_at : List ℕ → GateStep → Equation
equation_at operands step = record { out = step.out; kind = step.kind; operands = slice_range operands step.from step.to }

-- the operands of a step are a range of this list
abbrev pub IsInRange : List ℕ → GateStep → Type 0
IsInRange operands step = (step.from ≤ step.to) × (step.to ≤ length operands)

-- the equation is that of a gate of the netlist
abbrev pub IsOfGate : Net → Equation → Type 0
IsOfGate n e = (g : GateLine) × Contains n.gates g × (equation_of g ≡ e)

-- the rank of a gate's signal
abbrev pub rank_in : Net → Equation → ℕ
rank_in n e = slice_index n.ranks e.out

-- no gate is of lower rank than one before it
abbrev pub AreRising : Net → List Equation → Type 0
AreRising n es = (k : ℕ) (d : Equation) → k < length es → All (λ e. rank_in n e ≤ rank_in n (slice_index_or es k d)) (take k es)

-- These are all gates of a netlist by rising rank, and no others. So the operands of each are variables, or their gates
-- come before it.
pub record IsSchedule (n : Net) (es : List Equation) : Type 0 where
  pub gates : All (IsOfGate n) es
  pub all : (g : GateLine) → Contains n.gates g → Contains es (equation_of g)
  pub rising : AreRising n es

-- These are the gates up to the rank `ranks` and those of the signals, by rising rank, none above the rank `top`, and
-- no others.
pub record IsScheduledTo (n : Net) (es : List Equation) (ranks top : ℕ) (signals : List ℕ) : Type 0 where
  pub gates : All (IsOfGate n) es
  pub all : (g : GateLine) → Contains n.gates g → (rank_of n g ≤ ranks) ⊎ Contains signals g.out → Contains es (equation_of g)
  pub rising : AreRising n es
  pub low : All (λ e. rank_in n e ≤ top) es

-- the signals of gates, and those of their operands, are below a number
abbrev pub AreBelow : ℕ → List Equation → Type 0
AreBelow count es = All (λ e. (e.out < count) × All (λ s. s < count) e.operands) es

-- the signal of a gate has the value that the gate computes
abbrev pub HasValue : List Bool → Equation → Type 0
HasValue bits e = bit_of bits e.out ≡ value_of e.kind (map (bit_of bits) e.operands)
