-- What is true of the statements of a text without a faulty place.
use Rattle.std.specs.Prelude.{◌≡◌, ◌⊎◌, ℕ, ◌<◌, ◌≤◌, Bool, true, false, List, take, length, flat_map, slice_index_or, All, is_some, IsTrue}
use Rattle.std.specs.List.{list_all}
use Rattle.net_bench.specs.Statement.{Statement, Input, Output, Gate, kind_of, uses}
use Rattle.net_bench.specs.Circuit.{names_of, Net, circuit_of}
use Rattle.net_bench.specs.Fault.{has_wrong_operands, redefines, is_defined, max_signals, FirstUndefined, FirstEndless}
use Rattle.net_bench.specs.declared.fault.BenchFault.{BenchFault}
use Rattle.net_bench.specs.declared.fault.BenchFault.TheVariants.{Undefined, Cycle, OutOfMemory}

-- a gate's word is the word of a kind
abbrev pub has_kind : Statement → Bool
has_kind (Input word name) = true
has_kind (Output word name) = true
has_kind (Gate out word first others) = is_some (kind_of word.text)

-- each statement has a kind and the right number of operands, none is a second definition, and all together have few
-- enough signals
pub record IsSound (ss : List Statement) : Type 0 where
  pub kinds : All (λ s. has_kind s ≡ true) ss
  pub counts : All (λ s. has_wrong_operands s ≡ false) ss
  pub once : (k : ℕ) (d : Statement) → k < length ss → redefines (take k ss) (slice_index_or ss k d) ≡ false
  pub signals : length (names_of ss) ≤ max_signals

-- each use has a definition
abbrev pub AreDefined : List Statement → Type 0
AreDefined ss = IsTrue (list_all (is_defined ss) (flat_map uses ss))

-- the statements' circuit with these ranks
abbrev pub net_of : List Statement → List ℕ → Net
net_of ss ranks =
    let c = circuit_of ss in
    record { names = c.names; inputs = c.inputs; outputs = c.outputs; gates = c.gates; registers = c.registers; ranks = ranks }

-- sound statements have this fault: a use without a definition, a cycle, or want of memory
abbrev pub IsLateFault : List Statement → BenchFault → Type 0
IsLateFault ss fault =
    (fault ≡ OutOfMemory) ⊎ ((line : ℕ) × (fault ≡ Undefined line) × FirstUndefined ss line) ⊎
    ((line : ℕ) × (fault ≡ Cycle line) × AreDefined ss × FirstEndless (circuit_of ss) line)
