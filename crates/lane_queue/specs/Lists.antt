-- Properties of lists of items that only the lanes need.
use Rattle.std.specs.Prelude.{◌≡◌, ℕ, ◌<◌, List, ◌++◌}
use Rattle.req_table.specs.declared.Item.{Item}
use Rattle.req_table.specs.Wave.{Scope}
use Rattle.req_table.specs.Lanes.{IsFair}

-- What each worker has sent on one lane is fair.
abbrev pub FairLane : Scope → (ℕ → List Item) → Type 0
FairLane w sent = (s : ℕ) → s < w.workers → IsFair w (sent s)

-- The first list is a prefix of the second.
abbrev pub IsPrefix : List Item → List Item → Type 0
IsPrefix front xs = (back : List Item) × (xs ≡ front ++ back)
