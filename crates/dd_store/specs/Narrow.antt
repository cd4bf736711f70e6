-- Pairs of references in four bytes each, if both fit. A word says by itself which reference it is.
use Rattle.std.specs.Prelude.{◌≡◌, ℕ, ◌^◌, ◌<◌, List, map, slice_get, Option, None, Some}
use Rattle.dd_store.specs.declared.pairs.Pairs.{Pairs}
use Rattle.dd_store.specs.declared.pairs.Pairs.TheVariants.{Narrow, Wide}
use Rattle.dd_store.specs.Graph.{Pair}
use Rattle.slot_table.specs.Lists.{IsIn}
use Rattle.dd_store.specs.Words.{reference_of, IsWord}

-- both are words of references, and have four bytes
abbrev pub AreShortWords : ℕ × ℕ → Type 0
AreShortWords m = (IsWord m.0 × (m.0 < 2 ^ 32)) × (IsWord m.1 × (m.1 < 2 ^ 32))

-- the references that have two words
abbrev pub pair_at : ℕ × ℕ → Pair
pair_at m = (reference_of m.0, reference_of m.1)

-- the words of two references, if four bytes hold them
abbrev pub AreWordsOf : Pair → Option (ℕ × ℕ) → Type 0
AreWordsOf p None = (m : ℕ × ℕ) → AreShortWords m → pair_at m ≡ p → ⊥
AreWordsOf p (Some m) = AreShortWords m × (pair_at m ≡ p)

-- the pairs of a table
abbrev pub pairs_in : Pairs → List Pair
pairs_in (Narrow words) = map pair_at words
pairs_in (Wide pairs) = pairs

-- the table has pairs of four bytes for each reference
abbrev pub IsNarrow : Pairs → Type 0
IsNarrow (Narrow words) = Unit {0}
IsNarrow (Wide pairs) = ⊥

-- a pair that does not fit is not in the table, which is as before
abbrev pub DoesNotFit : Pair → Pairs → Pairs → Type 0
DoesNotFit p old new = IsNarrow old × (new ≡ old) × (IsIn (pairs_in old) p → ⊥)

-- all pairs of a list are words of references, and have four bytes
abbrev pub AllShortWords : List (ℕ × ℕ) → Type 0
AllShortWords words = (i : ℕ) (m : ℕ × ℕ) → slice_get words i ≡ Some m → AreShortWords m

-- the invariant of a table
abbrev pub AreValid : Pairs → Type 0
AreValid (Narrow words) = AllShortWords words
AreValid (Wide pairs) = Unit {0}
