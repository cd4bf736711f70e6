-- Values that hold a bit for each of several assignments.
use Rattle.std.specs.Prelude.{◌≡◌, ◌==◌, ◌<◌, ◌/◌, ◌%◌, ℕ, Bool, List, map, length, slice_index, slice_index_or, All}
use Rattle.std.specs.Int.{bit_at}
use Rattle.net_bench.specs.Circuit.{Net, circuit, variables_of}
use Rattle.net_bench.specs.Labels.{IsLabelling, bit_of}

-- bit i of a word
unfoldable pub bit_in : ℕ → ℕ → Bool
bit_in i word = bit_at word i == 1

-- bit i of a block of eight words: word 0 has the bits 0 to 63, word 1 the next, and so on
abbrev pub bit_in_block : ℕ → List ℕ → Bool
bit_in_block i block = bit_in (i % 64) (slice_index block (i / 64))

-- bit i of each value; for the values of variables by level it is the assignment of number i
abbrev pub column : {V : Type 0} → (ℕ → V → Bool) → ℕ → List V → List Bool
column bit i values = map (bit i) values

-- Each bit of the signals' values is the labelling in which the variables have, by their levels, this bit of the values `at`.
abbrev pub AreLabellings : {V : Type 0} → (ℕ → V → Bool) → ℕ → Net → (ℕ → ℕ) → List V → List V → Type 0
AreLabellings bit count n level at values = (i : ℕ) → i < count → IsLabelling (circuit n) level (column bit i at) (column bit i values)

-- in each bit each variable has the value of its level
abbrev pub HaveLevels : {V : Type 0} → (ℕ → V → Bool) → ℕ → Net → List ℕ → List V → List V → Type 0
HaveLevels bit count n levels at values = (i : ℕ) → i < count → (k d : ℕ) → k < length (variables_of (circuit n))
    → bit_of (column bit i values) (slice_index_or (variables_of (circuit n)) k d) ≡ bit_of (column bit i at) (slice_index levels k)

-- the bits of the variables are unchanged
abbrev pub KeepsVariables : Net → List Bool → List Bool → Type 0
KeepsVariables n old new = All (λ s. bit_of new s ≡ bit_of old s) (variables_of (circuit n))
