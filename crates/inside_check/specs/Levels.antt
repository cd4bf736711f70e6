-- The levels of a netlist's signals in a naming.
use Rattle.std.specs.Prelude.{◌≡◌, ◌<◌, ℕ, List, length, slice_index}
use Rattle.net_bench.specs.Circuit.{Circuit}

-- each signal of a netlist has the same level in both lists
abbrev pub HasLevelsOf : Circuit → List ℕ → List ℕ → Type 0
HasLevelsOf c levels copy = (s : ℕ) → s < length c.names → slice_index copy s ≡ slice_index levels s
