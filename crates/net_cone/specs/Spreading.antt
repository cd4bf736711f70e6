-- Assignments of some of the variables, taken from assignments of all.
use Rattle.std.specs.Prelude.{ℕ, Bool, false, List, map, slice_index_or}

-- the bits of an assignment at these places
abbrev pub bits_at : List ℕ → List Bool → List Bool
bits_at places x = map (λ l. slice_index_or x l false) places
