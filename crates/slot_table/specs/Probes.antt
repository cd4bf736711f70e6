-- Open addressing: the search for an item begins at its home and goes on to the next slot until it finds the item or an
-- empty slot. Here an empty slot holds 0, and any other the place of an item and 1; tags are in Stamps.
use Rattle.std.specs.Prelude.{◌≡◌, ℕ, suc, ◌+◌, ◌-◌, ◌*◌, ◌^◌, ◌<◌, ◌≤◌, ◌⊎◌, nat_lt, if◌then◌else◌, List, length, slice_get, Some, bit_and}
use Rattle.slot_table.specs.declared.slots.ProbeResult.{ProbeResult}
use Rattle.slot_table.specs.declared.slots.ProbeResult.TheVariants.{Place, Slot}

-- the slot at a distance from home, if there are n; after the last comes the first
unfoldable pub slot_of : ℕ → ℕ → ℕ → ℕ
slot_of n home d = if nat_lt (home + d) n then (home + d) else (home + d - n)

-- a slot holds a place
abbrev pub Holds : List ℕ → ℕ → ℕ → Type 0
Holds ts j i = slice_get ts j ≡ Some (suc i)

-- no slot before a distance from home is empty
abbrev pub IsTaken : ℕ → ℕ → List ℕ → ℕ → Type 0
IsTaken n home ts d = (e : ℕ) → e < d → (i : ℕ) × Holds ts (slot_of n home e) i

-- a slot is the first empty one from home
abbrev pub IsFree : ℕ → ℕ → List ℕ → ℕ → Type 0
IsFree n home ts j = (d : ℕ) × (d < n) × (j ≡ slot_of n home d) × (slice_get ts j ≡ Some 0) × IsTaken n home ts d

-- at least one slot is empty
abbrev pub HasFree : ℕ → List ℕ → Type 0
HasFree n ts = ((j : ℕ) → j < n → (i : ℕ) × Holds ts j i) → ⊥

-- the home of an item, if there are n slots
abbrev pub home_of : {X : Type 0} → (X → ℕ) → ℕ → X → ℕ
home_of slot_hash n x = bit_and (slot_hash x) (n - 1)

-- n slots find each item of the list
pub record Probes {X : Type 0} (slot_hash : X → ℕ) (n : ℕ) (xs : List X) (ts : List ℕ) : Type 0 where
  pub size : length ts ≡ n
  -- a slot holds a place of the list, and no two slots hold the same
  pub valid : (j i : ℕ) → Holds ts j i → i < length xs
  pub once : (j k i : ℕ) → Holds ts j i → Holds ts k i → j ≡ k
  -- no slot from an item's home to its own is empty, so that a search does not end before it
  pub reach : (i : ℕ) (x : X) → slice_get xs i ≡ Some x
      → (d : ℕ) × (d < n) × Holds ts (slot_of n (home_of slot_hash n x) d) i × IsTaken n (home_of slot_hash n x) ts d

-- n is the number of slots for some items: the least power of two that is at least 8 and of which they fill at most
-- three quarters
pub record IsTableFor (items n : ℕ) : Type 0 where
  pub some : 0 < items
  pub power : (k : ℕ) × (n ≡ 2 ^ k)
  pub eight : 8 ≤ n
  pub filled : 4 * items ≤ 3 * n
  -- half as many slots would be filled more than that
  pub least : (n ≡ 8) ⊎ (3 * n < 8 * items)

-- n is the number of slots for so many items, 0 for none
abbrev pub IsSlotCount : ℕ → ℕ → Type 0
IsSlotCount items n = ((items ≡ 0) × (n ≡ 0)) ⊎ IsTableFor items n

-- if there are slots, a slot is the first empty one from the item's home
abbrev pub IsFreeFor : {X : Type 0} → (X → ℕ) → List ℕ → X → ℕ → Type 0
IsFreeFor slot_hash ts x j = 0 < length ts → IsFree (length ts) (home_of slot_hash (length ts) x) ts j

-- the result of a search: the place of the item, or, if the item is absent, the first empty slot
abbrev pub IsProbeResult : {X : Type 0} → (X → ℕ) → List X → List ℕ → X → ProbeResult → Type 0
IsProbeResult slot_hash xs ts x (Place i) = slice_get xs i ≡ Some x
IsProbeResult slot_hash xs ts x (Slot j) = ((i : ℕ) × (slice_get xs i ≡ Some x) → ⊥) × IsFreeFor slot_hash ts x j
