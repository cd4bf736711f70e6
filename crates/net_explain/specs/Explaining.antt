-- Which inner signals of two netlists have the same name and different values at an assignment.
use Rattle.std.specs.Prelude.{◌≡◌, ◌↔◌, ℕ, zero, suc, ◌==◌, Bool, true, not, ◌&&◌, cond, if◌then◌else◌, List, [], ◌∷◌, ◌++◌, filter_map}
use Rattle.std.specs.Prelude.{length, slice_index_or, Option, Some, None, count_by, Contains}
use Rattle.net_bench.specs.declared.netlist.GateLine.{GateLine}
use Rattle.net_bench.specs.Circuit.{Net, circuit, find, gate_of, highest_rank}
use Rattle.net_bench.specs.Labels.{IsLabelling, bit_of}
use Rattle.net_cone.specs.Cones.{IsBelow}
use Rattle.net_order.specs.Order.{NamingModel, level_in}
use Rattle.net_order.specs.declared.netlist_role.NetlistRole.{NetlistRole}
use Rattle.net_order.specs.declared.netlist_role.NetlistRole.TheVariants.{First, Second}
use Rattle.net_explain.specs.declared.differing.InnerSignal.{InnerSignal}
use Rattle.net_explain.specs.declared.explanation.GateCount.{GateCount}
use Rattle.net_simulate.specs.RankRows.{rank_row}

-- for each signal whether it is below the root
pub record AreBelowFlags (n : Net) (root : ℕ) (visited : List Bool) : Type 0 where
  pub each : length visited ≡ length n.names
  pub below : (s : ℕ) → (bit_of visited s ≡ true) ↔ IsBelow (circuit n) root s

-- One of two netlists: the signal that is compared, the values of all signals at an assignment, and which signals are below the first.
pub record SimulationModel : Type 0 where
  pub root : ℕ
  pub values : List Bool
  pub below : List Bool

-- this is the simulation of one netlist of a pairing
pub record IsSimulation (n : Net) (p : NamingModel) (which : NetlistRole) (x : List Bool) (root : ℕ) (v : SimulationModel) : Type 0 where
  pub from : v.root ≡ root
  pub values : IsLabelling (circuit n) (level_in p which) x v.values
  pub below : AreBelowFlags n root v.below

-- the line of a signal's gate; None if it has none
abbrev pub gate_line : Option GateLine → Option ℕ
gate_line None = None
gate_line (Some g) = Some g.line

abbrev pub line_of : Net → ℕ → Option ℕ
line_of n s = gate_line (gate_of n.gates s)

-- the two values are different
abbrev pub differ : Bool → Bool → Bool
differ b c = cond b (not c) c

-- both signals are below those that are compared, they are not these two, and their values are different
abbrev pub is_inner : SimulationModel → SimulationModel → ℕ → ℕ → Bool
is_inner v w s t = bit_of v.below s && (bit_of w.below t &&
    (not (s == v.root && t == w.root) && differ (bit_of v.values s) (bit_of w.values t)))

-- two signals with the lines of their gates, if both have gates
abbrev pub inner_on : ℕ → ℕ → Bool → Option ℕ → Option ℕ → Option InnerSignal
inner_on s t value None line = None
inner_on s t value (Some first) None = None
inner_on s t value (Some first) (Some second) = Some (record {
  first = s;
  second = t;
  value = value;
  first_line = first;
  second_line =
      second;
})

-- a signal of the first netlist with the one of the same name in the second, if both are inner signals that differ
abbrev pub inner_with : Net → Net → SimulationModel → SimulationModel → ℕ → Option ℕ → Option InnerSignal
inner_with a b v w s None = None
inner_with a b v w s (Some t) = if is_inner v w s t then inner_on s t (bit_of v.values s) (line_of a s) (line_of b t) else None

abbrev pub inner_at : Net → Net → SimulationModel → SimulationModel → ℕ → Option InnerSignal
inner_at a b v w s = inner_with a b v w s (find b.names (slice_index_or a.names s []))

-- those among the gates' signals of the first ranks of the first netlist, by rising rank, those of one rank in the order of the text
abbrev pub inner_to : Net → Net → SimulationModel → SimulationModel → ℕ → List InnerSignal
inner_to a b v w zero = []
inner_to a b v w (suc r) = inner_to a b v w r ++ filter_map (inner_at a b v w) (rank_row a (suc r))

-- *the inner signals that differ*, by rising rank in the first netlist, those of one rank in the order of its text
abbrev pub differing : Net → Net → SimulationModel → SimulationModel → List InnerSignal
differing a b v w = inner_to a b v w (highest_rank a)

-- An inner signal that differs, without regard to the list: a signal of a gate of each netlist, on these lines.
pub record IsInner (a b : Net) (v w : SimulationModel) (i : InnerSignal) : Type 0 where
  pub gate : GateLine
  pub other_gate : GateLine
  pub among : Contains a.gates gate
  pub other_among : Contains b.gates other_gate
  pub out : gate.out ≡ i.first
  pub other_out : other_gate.out ≡ i.second
  pub line : gate.line ≡ i.first_line
  pub other_line : other_gate.line ≡ i.second_line
  -- both have the same name
  pub name : slice_index_or a.names i.first [] ≡ slice_index_or b.names i.second []
  -- both are below the signals that are compared, and they are not these two
  pub below : bit_of v.below i.first ≡ true
  pub other_below : bit_of w.below i.second ≡ true
  pub apart : i.first ≡ v.root → i.second ≡ w.root → ⊥
  -- they have different values
  pub value : bit_of v.values i.first ≡ i.value
  pub other_value : bit_of w.values i.second ≡ not i.value

-- how many gates are below the root, and how many of these are not below the signal `low`
pub record IsGateCount (n : Net) (v : SimulationModel) (low : ℕ) (p : GateCount) : Type 0 where
  pub visited : List Bool
  pub below : AreBelowFlags n low visited
  pub all : p.all ≡ count_by (λ g. bit_of v.below g.out) n.gates
  pub outside : p.outside ≡ count_by (λ g. bit_of v.below g.out && not (bit_of visited g.out)) n.gates

-- for each netlist these are the gates below the root, and those of them outside the cone of the first inner signal
abbrev pub AreGateCounts : Net → Net → SimulationModel → SimulationModel → List InnerSignal → Option (GateCount × GateCount) → Type 0
AreGateCounts a b v w [] None = Unit {0}
AreGateCounts a b v w [] (Some ps) = ⊥
AreGateCounts a b v w (i ∷ is) None = ⊥
AreGateCounts a b v w (i ∷ is) (Some ps) = IsGateCount a v i.first ps.0 × IsGateCount b w i.second ps.1

-- The explanation of a difference at an assignment.
pub record ExplanationModel : Type 0 where
  pub inner : List InnerSignal
  pub gate_counts : Option (GateCount × GateCount)

-- this explains the pair of signals: it has exactly its inner signals that differ, and the gate counts for the first of them
pub record IsExplanation (a b : Net) (p : NamingModel) (pair : ℕ × ℕ) (x : List Bool) (e : ExplanationModel) : Type 0 where
  pub first : SimulationModel
  pub second : SimulationModel
  pub seen : IsSimulation a p First x pair.0 first
  pub other : IsSimulation b p Second x pair.1 second
  pub inner : e.inner ≡ differing a b first second
  pub gate_counts : AreGateCounts a b first second e.inner e.gate_counts
