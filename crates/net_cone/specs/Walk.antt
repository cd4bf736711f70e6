-- What is true while a cone is made: which signals have been visited, and their numbers in the cone.
use Rattle.std.specs.Prelude.{◌≡◌, ◌⊎◌, ◌<◌, ◌≤◌, ◌+◌, ℕ, Bool, true, false, if◌then◌else◌, List, [], ◌∷◌, ◌++◌, count_by, filter}
use Rattle.std.specs.Prelude.{filter_map, fold, map, length, take, drop, slice_index, slice_index_or, Contains, All}
use Rattle.net_bench.specs.declared.netlist.GateLine.{GateLine}
use Rattle.net_bench.specs.Circuit.{Net, circuit, gate_of, with_name}
use Rattle.net_cone.specs.declared.cone.ConeNumbering.{ConeNumbering}
use Rattle.net_cone.specs.Cones.{IsBelow, gate_name, last_gate, variable_name}

-- the signal has been visited: its flag is set
abbrev pub is_visited : List Bool → ℕ → Bool
is_visited seen s = slice_index_or seen s false

abbrev pub IsVisited : List Bool → ℕ → Type 0
IsVisited seen s = is_visited seen s ≡ true

-- how many gates' signals have been visited
abbrev pub gates_visited : List Bool → List GateLine → ℕ
gates_visited seen gates = count_by (λ g. is_visited seen g.out) gates

-- how many signals have not been visited
abbrev pub unvisited : List Bool → ℕ
unvisited [] = 0
unvisited (b ∷ bs) = if b then unvisited bs else unvisited bs + 1

-- no flag was cleared
abbrev pub KeepsVisited : List Bool → List Bool → Type 0
KeepsVisited old new = (s : ℕ) → IsVisited old s → IsVisited new s

-- the signals that were visited are below the root; those on the stack were visited; of the others the operands were visited, too
pub record IsWalkBelow (n : Net) (root : ℕ) (seen : List Bool) (waiting : List ℕ) : Type 0 where
  pub each : length seen ≡ length n.names
  pub start : IsVisited seen root
  pub below : (s : ℕ) → IsVisited seen s → IsBelow (circuit n) root s
  pub waits : All (λ s. IsVisited seen s) waiting
  pub done : (g : GateLine) → Contains n.gates g → IsVisited seen g.out → Contains waiting g.out ⊎ All (λ t. IsVisited seen t) g.operands

-- the signals that were visited are exactly those below the root
pub record AreBelow (n : Net) (root : ℕ) (seen : List Bool) : Type 0 where
  pub each : length seen ≡ length n.names
  pub start : IsVisited seen root
  pub below : (s : ℕ) → IsVisited seen s → IsBelow (circuit n) root s
  pub closed : (g : GateLine) → Contains n.gates g → IsVisited seen g.out → All (λ t. IsVisited seen t) g.operands

-- each signal of the list has its place in the list as its number
pub record IsNumbering (from to : List ℕ) : Type 0 where
  pub in_bounds : All (λ s. s < length to) from
  pub place : (i : ℕ) → i < length from → slice_index to (slice_index from i) ≡ i

-- a gate with the cone's numbers
abbrev pub renumbered : List ℕ → GateLine → GateLine
renumbered to g = record { out = slice_index to g.out; kind = g.kind; operands = map (slice_index to) g.operands; line = 0 }

-- the name of a gate's signal, by its number in the cone
abbrev pub numbered_name : List ℕ → ℕ → List ℕ
numbered_name to s = gate_name (slice_index to s)

-- the gates whose signals were visited
abbrev pub visited_gates : List Bool → List GateLine → List GateLine
visited_gates seen gates = filter (λ g. is_visited seen g.out) gates

-- the gates of these signals, in their order
abbrev pub gates_of : List GateLine → List ℕ → List GateLine
gates_of gates signals = filter_map (gate_of gates) signals

-- ---- the cone

-- the names of a cone's signals, variables first
abbrev pub cone_names : (given : List (List ℕ)) → (to : List ℕ) → ℕ → List ℕ → List (List ℕ)
cone_names given to variables from = (map (variable_name given) (take variables from) ++ map (numbered_name to) (drop variables from))
    ++ (111 ∷ []) ∷ []

-- the parts of the cone are those that a cone has
pub record HasConeParts (n : Net) (root : ℕ) (given : List (List ℕ)) (numbers : ConeNumbering) (cone : Net) : Type 0 where
  pub names : cone.names ≡ fold with_name [] (cone_names given numbers.to.items numbers.variables numbers.from.items)
  pub few : length cone.names ≤ 1000000
  pub short : length numbers.from.items ≤ 1000000
  pub inputs : length cone.inputs ≡ numbers.variables
  pub input : (i d : ℕ) → i < numbers.variables → slice_index_or cone.inputs i d ≡ i
  pub outputs : cone.outputs ≡ length numbers.from.items ∷ []
  pub gates : cone.gates ≡ map (renumbered numbers.to.items) (gates_of n.gates (drop numbers.variables numbers.from.items))
      ++ last_gate (length numbers.from.items) (slice_index numbers.to.items root) ∷ []
  pub registers : cone.registers ≡ []
  pub ranks : cone.ranks ≡ map (slice_index n.ranks) numbers.from.items ++ (slice_index n.ranks root + 1) ∷ []
