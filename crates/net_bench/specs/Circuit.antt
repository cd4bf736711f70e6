-- The netlist that statements make.
use Rattle.std.specs.Prelude.{◌≡◌, ◌≢◌, ◌⊎◌, ℕ, suc, ◌+◌, ◌<◌, ◌≤◌, Bool, true, false, not, if◌then◌else◌, IsTrue, List, [], ◌∷◌}
use Rattle.std.specs.Prelude.{◌++◌, map, length, flat_map, filter, filter_map, fold, position, unwrap_or, Option, Some, None, option_map}
use Rattle.std.specs.Prelude.{bytes_eq, Contains, slice_get, slice_index, slice_index_or, All}
use Rattle.std.specs.List.{list_any}
use Rattle.net_bench.specs.declared.netlist.Kind.{Kind}
use Rattle.net_bench.specs.declared.netlist.Kind.TheVariants.{And, Nand, Or, Nor, Xor, Xnor, Not, Buff, Dff}
use Rattle.net_bench.specs.declared.netlist.Role.{Role}
use Rattle.net_bench.specs.declared.netlist.Role.TheVariants.{Undefined as undefined, Input as input, Gate as gate, Register as register}
use Rattle.net_bench.specs.declared.netlist.GateLine.{GateLine}
use Rattle.net_bench.specs.Text.{Word}
use Rattle.net_bench.specs.Statement.{Statement, Input, Output, Gate, kind_of, takes_one, interned, input_name, output_name, operands}

-- whether the name is among the names
abbrev pub is_name_in : List (List ℕ) → List ℕ → Bool
is_name_in names n = list_any (λ m. bytes_eq m n) names

-- the list with the name at its end, unless the name is in it
abbrev pub with_name : List (List ℕ) → List ℕ → List (List ℕ)
with_name names n = if is_name_in names n then names else names ++ n ∷ []

-- each name once, where it is first
abbrev pub distinct : List (List ℕ) → List (List ℕ)
distinct names = fold with_name [] names

-- a signal's number is its place among the names
abbrev pub find : List (List ℕ) → List ℕ → Option ℕ
find names n = position (λ m. bytes_eq m n) names

-- a name's number; 0 if it has none
abbrev pub number_of : List (List ℕ) → List ℕ → ℕ
number_of names n = unwrap_or (find names n) 0

-- A netlist, its signals by number. The gates are those that are no registers.
pub record Circuit : Type 0 where
  pub names : List (List ℕ)
  pub inputs : List ℕ
  pub outputs : List ℕ
  pub gates : List GateLine
  pub registers : List GateLine

-- the signals whose values are free: the inputs, then the registers in their order
abbrev pub variables_of : Circuit → List ℕ
variables_of c = c.inputs ++ map (λ g. g.out) c.registers

-- the kind of a register
abbrev pub is_register_kind : Kind → Bool
is_register_kind And = false
is_register_kind Nand = false
is_register_kind Or = false
is_register_kind Nor = false
is_register_kind Xor = false
is_register_kind Xnor = false
is_register_kind Not = false
is_register_kind Buff = false
is_register_kind Dff = true

-- whether it is a register, and whether it is a gate
abbrev pub is_register : GateLine → Bool
is_register g = is_register_kind g.kind

abbrev pub is_gate : GateLine → Bool
is_gate g = not (is_register g)

-- the gate or register of this kind, with its operands by number
abbrev pub gate_with : List (List ℕ) → Word → Kind → List Word → GateLine
gate_with names out kind operands =
    record { out = number_of names out.text; kind = kind; operands = map (λ w. number_of names w.text) operands; line = out.line }

-- the gate or register of a statement whose word names a kind
abbrev pub gate_line : List (List ℕ) → Statement → Option GateLine
gate_line names (Input word name) = None
gate_line names (Output word name) = None
gate_line names (Gate out word first others) = option_map (λ kind. gate_with names out kind (first ∷ others)) (kind_of word.text)

-- the names of the signals, in the order in which the statements first mention them
abbrev pub names_of : List Statement → List (List ℕ)
names_of ss = distinct (flat_map interned ss)

-- signals are numbered in this order; an INPUT or OUTPUT that is repeated counts once
abbrev pub circuit_of : List Statement → Circuit
circuit_of ss =
    let names = names_of ss in
    record {
      names = names;
      inputs = map (number_of names) (distinct (flat_map input_name ss));
      outputs = map (number_of names) (distinct (flat_map output_name ss));
      gates = filter is_gate (filter_map (gate_line names) ss);
      registers = filter is_register (filter_map (gate_line names) ss);
    }

-- ---- chains of operands, which end at variables unless there is a cycle

-- the signal's gate has this operand
abbrev pub Feeds : Circuit → ℕ → ℕ → Type 0
Feeds c operand out = (g : GateLine) × Contains c.gates g × (g.out ≡ out) × Contains g.operands operand

-- an endless chain of operands starts at the signal
abbrev pub IsEndless : Circuit → ℕ → Type 0
IsEndless c s = (chain : ℕ → ℕ) × (chain 0 ≡ s) × ((n : ℕ) → Feeds c (chain (suc n)) (chain n))

-- the greatest of the numbers; 0 if there are none
abbrev pub greatest : List ℕ → ℕ
greatest [] = 0
greatest (x ∷ xs) = if Rattle.std.specs.Prelude.nat_le x (greatest xs) then greatest xs else x

-- one rank for each signal: 0 for a variable, 1 more than the greatest of the operands for a gate
pub record AreRanks (c : Circuit) (ranks : List ℕ) : Type 0 where
  pub each : length ranks ≡ length c.names
  pub variables : All (λ s. slice_index ranks s ≡ 0) (variables_of c)
  pub gates : All (λ g. slice_index ranks g.out ≡ greatest (map (slice_index ranks) g.operands) + 1) c.gates

-- A netlist as its users see it, with the rank of each signal.
pub record Net : Type 0 where
  pub names : List (List ℕ)
  pub inputs : List ℕ
  pub outputs : List ℕ
  pub gates : List GateLine
  pub registers : List GateLine
  pub ranks : List ℕ

-- the rank of a gate
abbrev pub rank_of : Net → GateLine → ℕ
rank_of n g = slice_index n.ranks g.out

-- the greatest rank of a gate; 0 if there is none
abbrev pub highest_rank : Net → ℕ
highest_rank n = greatest (map (rank_of n) n.gates)

-- the netlist without its ranks
abbrev pub circuit : Net → Circuit
circuit n = record { names = n.names; inputs = n.inputs; outputs = n.outputs; gates = n.gates; registers = n.registers }

-- the signal is a variable or has a gate
abbrev pub IsDefined : Circuit → ℕ → Type 0
IsDefined c s = Contains (variables_of c) s ⊎ ((g : GateLine) × Contains c.gates g × (g.out ≡ s))

-- no number is in the list twice
abbrev pub HaveNoRepeats : List ℕ → Type 0
HaveNoRepeats xs = (i j : ℕ) → i < j → j < length xs → slice_index xs i ≢ slice_index xs j

-- the signal has this role: it is an input, or the signal of the gate or register at that place
abbrev pub HasRole : Net → ℕ → Role → Type 0
HasRole n s undefined = ⊥
HasRole n s input = Contains n.inputs s
HasRole n s (gate p) = (g : GateLine) × (slice_get n.gates p ≡ Some g) × (g.out ≡ s)
HasRole n s (register p) = (g : GateLine) × (slice_get n.registers p ≡ Some g) × (g.out ≡ s)

-- the first gate with this signal
abbrev pub gate_of : List GateLine → ℕ → Option GateLine
gate_of gates s = Rattle.std.specs.Prelude.find (λ g. Rattle.std.specs.Prelude.nat_eq g.out s) gates

-- the gate of a role; None if the role is no gate
abbrev pub gate_by : List GateLine → Role → Option GateLine
gate_by gates undefined = None
gate_by gates input = None
gate_by gates (gate p) = slice_get gates p
gate_by gates (register p) = None

-- what is true of each netlist that was read
pub record IsNet (n : Net) : Type 0 where
  pub names : (i j : ℕ) → i < j → j < length n.names → slice_index_or n.names i [] ≢ slice_index_or n.names j []
  pub few : length n.names ≤ 1000000
  pub variables : All (λ s. s < length n.names) (variables_of (circuit n))
  pub outs : All (λ g. g.out < length n.names) n.gates
  -- no variable has a gate, and no signal two
  pub apart : All (λ s. All (λ g. g.out ≢ s) n.gates) (variables_of (circuit n))
  pub one_gate : (i j : ℕ) (d : GateLine) → i < j → j < length n.gates → (slice_index_or n.gates i d).out ≢ (slice_index_or n.gates j d).out
  pub defined : (s : ℕ) → s < length n.names → IsDefined (circuit n) s
  pub outputs : All (λ s. s < length n.names) n.outputs
  -- a variable is one input or one register, and an output is once among the outputs
  pub variables_once : HaveNoRepeats (variables_of (circuit n))
  pub outputs_once : HaveNoRepeats n.outputs
  pub gates : All (λ g. IsTrue (is_gate g)) n.gates
  pub registers : All (λ g. IsTrue (is_register g)) n.registers
  -- a register has one operand, its next state
  pub next : All (λ g. All (λ s. s < length n.names) g.operands × (length g.operands ≡ 1)) n.registers
  pub operands : All (λ g. All (λ s. s < length n.names) g.operands × (0 < length g.operands)
      × (IsTrue (takes_one g.kind) → length g.operands ≡ 1)) n.gates
  pub ranks : AreRanks (circuit n) n.ranks
