-- A set of levels, by a bit for each, 64 in a word.
use Rattle.std.specs.Prelude.{◌≡◌, ℕ, ◌*◌, ◌/◌, ◌%◌, ◌<◌, ◌≤◌, List, length, slice_index_or, Option, None, Some}
use Rattle.std.specs.Int.{bit_at}

-- the bit of level w, 1 if it is in the set
abbrev pub member_of : List ℕ → ℕ → ℕ
member_of ws w = bit_at (slice_index_or ws (w / 64) 0) (w % 64)

abbrev pub IsMember : List ℕ → ℕ → Type 0
IsMember ws w = member_of ws w ≡ 1

-- the lowest bit that is set in a word from a place on, or None if none is
abbrev pub IsLowestFrom : ℕ → ℕ → Option ℕ → Type 0
IsLowestFrom word from None = (k : ℕ) → from ≤ k → k < 64 → bit_at word k ≡ 1 → ⊥
IsLowestFrom word from (Some b) = (from ≤ b) × (b < 64) × (bit_at word b ≡ 1) × ((k : ℕ) → from ≤ k → k < b → bit_at word k ≡ 1 → ⊥)

-- the highest bit that is set in a word before a place, or None if none is
abbrev pub IsHighestBefore : ℕ → ℕ → Option ℕ → Type 0
IsHighestBefore word end None = (k : ℕ) → k < end → bit_at word k ≡ 1 → ⊥
IsHighestBefore word end (Some b) = (b < end) × (bit_at word b ≡ 1) × ((k : ℕ) → b < k → k < end → bit_at word k ≡ 1 → ⊥)

-- the first level of the set from a level on, or None if there is none
abbrev pub IsNextFrom : List ℕ → ℕ → Option ℕ → Type 0
IsNextFrom ws from None = (w : ℕ) → from ≤ w → IsMember ws w → ⊥
IsNextFrom ws from (Some v) = (from ≤ v) × (v < 64 * length ws) × IsMember ws v × ((w : ℕ) → from ≤ w → w < v → IsMember ws w → ⊥)

-- the last level of the set before a level, or None if there is none
abbrev pub IsLastBefore : List ℕ → ℕ → Option ℕ → Type 0
IsLastBefore ws end None = (w : ℕ) → w < end → IsMember ws w → ⊥
IsLastBefore ws end (Some v) = (v < end) × IsMember ws v × ((w : ℕ) → v < w → w < end → IsMember ws w → ⊥)
