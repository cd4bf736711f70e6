-- Signals of netlists as literals of one graph.
use Rattle.std.specs.Prelude.{◌≡◌, ℕ, ◌<◌, Bool, List, Contains, IsTrue, length, slice_get, slice_index_or, Some}
use Rattle.net_bench.specs.Circuit.{Circuit, variables_of}
use Rattle.net_bench.specs.Labels.{IsLabelling, bit_of}
use Rattle.net_simulate.specs.Schedules.{Equation}
use Rattle.pair_graph.specs.declared.node.Node.{Node}
use Rattle.pair_graph.specs.Literals.{Parts, false_literal}
use Rattle.pair_graph.specs.Graphs.{AreEquivalent, HasNode, value}

-- a literal has the values of a signal: in each consistent labelling its value is the signal's bit
abbrev pub IsLiteralOf : Circuit → (ℕ → ℕ) → List Node → ℕ → Parts → Type 0
IsLiteralOf c level g s l = (x bits : List Bool) → IsLabelling c level x bits → value g x l ≡ bit_of bits s

-- the literal of a signal; the constant 0 beyond the end
abbrev pub literal_at : List Parts → ℕ → Parts
literal_at literals s = slice_index_or literals s false_literal

-- each signal of a netlist has a literal of the graph, and this literal has the signal's values
pub record AreSignalLiterals (c : Circuit) (level : ℕ → ℕ) (g : List Node) (literals : List Parts) : Type 0 where
  pub each : length literals ≡ length c.names
  pub has : (s : ℕ) → HasNode g (literal_at literals s)
  pub values : (s : ℕ) → s < length c.names → IsLiteralOf c level g s (literal_at literals s)

-- Two netlists merged in one graph: its nodes; the literals of the first netlist and of the second, by signal; and for
-- each pair that is wanted equal whether it was found so.
pub record MergedModel : Type 0 where
  pub graph : List Node
  pub first : List Parts
  pub second : List Parts
  pub equal : List Bool

-- What is found of a pair of signals: that they are equal only if their literals have the same value at every assignment, and always if
-- they have the same literal.
pub record IsPairFinding (g : List Node) (firsts seconds : List Parts) (pair : ℕ × ℕ) (found : Bool) : Type 0 where
  pub equal : IsTrue found → AreEquivalent g (literal_at firsts pair.0) (literal_at seconds pair.1)
  pub same : literal_at firsts pair.0 ≡ literal_at seconds pair.1 → IsTrue found

-- ---- what is done so far, while literals are made

-- the literals are of the graph
abbrev pub HaveNodes : List Node → List Parts → Type 0
HaveNodes g literals = (s : ℕ) → HasNode g (literal_at literals s)

-- so many variables of a netlist have a literal with their values
pub record AreVariablesDone (c : Circuit) (level : ℕ → ℕ) (g : List Node) (done : ℕ) (literals : List Parts) : Type 0 where
  pub each : length literals ≡ length c.names
  pub has : HaveNodes g literals
  pub values : (k s : ℕ) → k < done → slice_get (variables_of c) k ≡ Some s → IsLiteralOf c level g s (literal_at literals s)

-- all variables of a netlist, and so many gates of a schedule, have literals with their values
pub record AreGatesDone (c : Circuit) (level : ℕ → ℕ) (schedule : List Equation) (g : List Node) (done : ℕ) (literals : List Parts) : Type 0 where
  pub each : length literals ≡ length c.names
  pub has : HaveNodes g literals
  pub variables : (s : ℕ) → Contains (variables_of c) s → IsLiteralOf c level g s (literal_at literals s)
  pub gates : (k : ℕ) (e : Equation) → k < done → slice_get schedule k ≡ Some e → IsLiteralOf c level g e.out (literal_at literals e.out)
