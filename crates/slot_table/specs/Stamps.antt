-- What the slots of a table hold. An empty slot holds 0, any other the stamp of an item: its place and 1 in the lower
-- bits, as many as number the slots, and above them its tag, the same bits of its hash.
use Rattle.std.specs.Prelude.{◌≡◌, ℕ, suc, ◌+◌, ◌-◌, ◌^◌, ◌%◌, ◌⊎◌, List, length, map, slice_get, Some, bit_and}
use Rattle.slot_table.specs.Lists.{IsOnce}
use Rattle.slot_table.specs.Probes.{IsSlotCount, Probes}

-- a number is a power of two
abbrev pub IsPower : ℕ → Type 0
IsPower n = (k : ℕ) × (n ≡ 2 ^ k)

-- the tag of an item: the lower 32 bits of its hash without those that number n slots
abbrev pub tag_of : {X : Type 0} → (X → ℕ) → ℕ → X → ℕ
tag_of slot_hash n x = slot_hash x % 2 ^ 32 - bit_and (slot_hash x % 2 ^ 32) (n - 1)

-- the stamp of an item at a place, if there are n slots
abbrev pub stamp_of : {X : Type 0} → (X → ℕ) → ℕ → X → ℕ → ℕ
stamp_of slot_hash n x i = tag_of slot_hash n x + suc i

-- the slots without their tags: 0, or a place and 1
abbrev pub places_in : ℕ → List ℕ → List ℕ
places_in n ts = map (λ t. bit_and t (n - 1)) ts

-- each of n slots is empty or holds the stamp of an item of the list
abbrev pub AreStamped : {X : Type 0} → (X → ℕ) → ℕ → List X → List ℕ → Type 0
AreStamped {X} slot_hash n xs ts =
    (j t : ℕ) → slice_get ts j ≡ Some t → (t ≡ 0) ⊎ ((i : ℕ) × (x : X) × (slice_get xs i ≡ Some x) × (t ≡ stamp_of slot_hash n x i))

-- n slots find each item of the list: by its place, and with its stamp
pub record Finds {X : Type 0} (slot_hash : X → ℕ) (n : ℕ) (xs : List X) (ts : List ℕ) : Type 0 where
  pub probes : Probes slot_hash n xs (places_in n ts)
  pub stamped : AreStamped slot_hash n xs ts

-- the items are distinct, and the slots, of which there are as many as promised, find them
pub record IsTable {X : Type 0} (slot_hash : X → ℕ) (xs : List X) (ts : List ℕ) : Type 0 where
  pub finds : Finds slot_hash (length ts) xs ts
  pub count : IsSlotCount (length xs) (length ts)
  pub once : IsOnce xs
