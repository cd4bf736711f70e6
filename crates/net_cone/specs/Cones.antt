-- The cone of a signal: the signal and all that it depends on, as a netlist of its own.
use Rattle.std.specs.Prelude.{◌≡◌, ◌+◌, ◌<◌, ℕ, Bool, List, [], ◌∷◌, ◌++◌, ◌↔◌, IsTrue, count_by, filter, map, length, slice_index}
use Rattle.std.specs.Prelude.{slice_index_or, Contains, All, decimal}
use Rattle.net_bench.specs.declared.netlist.GateLine.{GateLine}
use Rattle.net_bench.specs.declared.netlist.Kind.TheVariants.{Buff}
use Rattle.net_bench.specs.Circuit.{HaveNoRepeats, Circuit, Feeds, IsNet, Net, circuit, variables_of}

-- the signal is the root, or an operand of a gate whose signal is below the root; nothing is below a variable but itself
pub data IsBelow (c : Circuit) (root : ℕ) : ℕ → Type 0 where
  here : IsBelow c root root
  deeper : {s t : ℕ} → IsBelow c root s → Feeds c t s → IsBelow c root t

-- exactly n gates are below the root
pub record HasGates (c : Circuit) (root : ℕ) (n : ℕ) : Type 0 where
  pub met : ℕ → Bool
  pub are_met : (s : ℕ) → IsTrue (met s) ↔ IsBelow c root s
  pub count : n ≡ count_by (λ g. met g.out) c.gates

-- the names of variables, by signal: different variables have different names
pub record AreNames (n : Net) (names : List (List ℕ)) : Type 0 where
  pub each : length names ≡ length n.names
  pub apart : (s t : ℕ) → Contains (variables_of (circuit n)) s → Contains (variables_of (circuit n)) t →
      slice_index_or names s [] ≡ slice_index_or names t [] → s ≡ t

-- a variable's name in a cone: "v" and the name that is given
abbrev pub variable_name : List (List ℕ) → ℕ → List ℕ
variable_name names s = 118 ∷ slice_index_or names s []

-- a gate's name in a cone, by its number there, so that the same gates over the same variables are the same cone
abbrev pub gate_name : ℕ → List ℕ
gate_name t = 103 ∷ decimal t

-- the signals of the gates, in the order of the text
abbrev pub gate_signals : Net → List ℕ
gate_signals n = map (λ g. g.out) n.gates

-- the gate of a cone is one of the netlist's, by the cone's numbers; where the text has it is not kept
pub record IsCopy (n : Net) (from : List ℕ) (g : GateLine) : Type 0 where
  pub source : GateLine
  pub among : Contains n.gates source
  pub in_bounds : g.out < length from
  pub out : slice_index from g.out ≡ source.out
  pub kind : g.kind ≡ source.kind
  pub low : All (λ t. t < length from) g.operands
  pub operands : map (slice_index from) g.operands ≡ source.operands
  pub line : g.line ≡ 0

-- the last gate of a cone, a BUFF of the root
abbrev pub last_gate : ℕ → ℕ → GateLine
last_gate out top = record { out = out; kind = Buff; operands = top ∷ []; line = 0 }

-- This is the cone of a signal of a netlist whose variables have these names. Each signal of the cone but the last is a
-- copy of the one of the netlist that `from` gives.
pub record IsCone (n : Net) (root : ℕ) (names : List (List ℕ)) (cone : Net) (from : List ℕ) : Type 0 where
  pub copies : List GateLine
  pub top : ℕ
  pub sound : IsNet cone
  pub count : length cone.names ≡ length from + 1
  pub below : All (IsBelow (circuit n) root) from
  pub once : HaveNoRepeats from
  -- the variables that are met come first, in their order, then the signals of the gates that are met, in the order of the text
  pub met : ℕ → Bool
  pub order : from ≡ filter met (variables_of (circuit n)) ++ filter met (map (λ g. g.out) n.gates)
  pub input_count : length cone.inputs ≡ length (filter met (variables_of (circuit n)))
  pub gate_count : length copies ≡ length (filter met (map (λ g. g.out) n.gates))
  pub input_places : (t d : ℕ) → t < length cone.inputs → slice_index_or cone.inputs t d ≡ t
  pub gate_places : (i : ℕ) (d : GateLine) → i < length copies → (slice_index_or copies i d).out ≡ length cone.inputs + i
  -- its inputs are variables of the netlist
  pub inputs : All (λ t. (t < length from) × Contains (variables_of (circuit n)) (slice_index from t)) cone.inputs
  pub registers : cone.registers ≡ []
  -- its gates are copies of gates of the netlist, and last a BUFF of the root, its one output
  pub gates : cone.gates ≡ copies ++ last_gate (length from) top ∷ []
  pub copied : All (IsCopy n from) copies
  pub in_bounds : top < length from
  pub top_is_root : slice_index from top ≡ root
  pub outputs : cone.outputs ≡ length from ∷ []
  pub input_names : All (λ t. slice_index_or cone.names t [] ≡ variable_name names (slice_index from t)) cone.inputs
  pub gate_names : All (λ g. slice_index_or cone.names g.out [] ≡ gate_name g.out) copies
  pub last_name : slice_index_or cone.names (length from) [] ≡ 111 ∷ []
