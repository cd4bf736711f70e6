-- Items of a list.
use Rattle.std.specs.Prelude.{◌≡◌, ℕ, List, slice_get, Some}

-- an item is in a list
abbrev pub IsIn : {X : Type 0} → List X → X → Type 0
IsIn xs x = (i : ℕ) × (slice_get xs i ≡ Some x)

-- no item is in a list twice
abbrev pub IsOnce : {X : Type 0} → List X → Type 0
IsOnce {X} xs = (i j : ℕ) (x : X) → slice_get xs i ≡ Some x → slice_get xs j ≡ Some x → i ≡ j
