-- The result of finding or adding an item.
use Rattle.std.specs.Prelude.{◌≡◌, ℕ, ◌<◌, List, [], ◌∷◌, ◌++◌, length, slice_get, Some, Result, Ok, Err}
use Rattle.slot_table.specs.Lists.{IsIn}
use Rattle.slot_table.specs.declared.Admission.{Admission}
use Rattle.slot_table.specs.declared.Admission.TheVariants.{Found, Added}
use Rattle.slot_table.specs.declared.Refusal.{Refusal}
use Rattle.slot_table.specs.declared.Refusal.TheVariants.{Full, OutOfMemory}

-- by the result of a search with room for so many more: the item was found and the list is as before, or it was absent
-- and is now the last, or it is absent, the list is as before, and this refusal has its cause
abbrev pub IsPlaced : {X : Type 0} → ℕ → X → List X → Result Admission Refusal → List X → Type 0
IsPlaced room x old (Ok (Found i)) new = (slice_get old i ≡ Some x) × (new ≡ old)
IsPlaced room x old (Ok (Added i)) new = (IsIn old x → ⊥) × (0 < room) × (i ≡ length old) × (new ≡ old ++ x ∷ [])
IsPlaced room x old (Err Full) new = (IsIn old x → ⊥) × (room ≡ 0) × (new ≡ old)
IsPlaced room x old (Err OutOfMemory) new = (IsIn old x → ⊥) × (0 < room) × (new ≡ old)
