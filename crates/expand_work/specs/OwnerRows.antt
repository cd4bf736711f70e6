-- The requests of a worker: their keys, and their children by owner.
use Rattle.std.specs.Prelude.{◌≡◌, ℕ, List, length, map}
use Rattle.dd_store.specs.Nodes.{Nodes}
use Rattle.req_table.specs.declared.Key.{Key}
use Rattle.req_table.specs.declared.Child.{Child}
use Rattle.req_table.specs.declared.Child.TheVariants.{Done, Ask}
use Rattle.req_table.specs.declared.Record.{Record}
use Rattle.req_table.specs.declared.packed_child.PackedChild.{PackedChild}
use Rattle.req_table.specs.declared.packed_child.PlacedChild.TheVariants as by_number
use Rattle.req_table.specs.Keys.{owner, record_of}

-- a child as a row has it on the way down: its answer, or the level of its request, the request's owner, and whether
-- the child is the complement
abbrev pub by_owner : ℕ → Child → PackedChild
by_owner workers (Done r) = by_number.Done r
by_owner workers (Ask l x m) = by_number.Ask l (owner workers x) m

-- the children of records, low and high
abbrev pub row_by_owner : ℕ → List Record → List (PackedChild × PackedChild)
row_by_owner workers records = map (λ r. (by_owner workers r.low, by_owner workers r.high)) records

-- the records of keys, over a store
abbrev pub records_of : Nodes → List Key → List Record
records_of S keys = map (record_of S) keys

-- the records of the keys of each level
abbrev pub recorded : Nodes → List (List Key) → List (List Record)
recorded S tables = map (records_of S) tables

-- by worker and level, these rows have the children of the records of all workers
abbrev pub AreRowsByOwner : List (List (List Record)) → List (List (List (PackedChild × PackedChild))) → Type 0
AreRowsByOwner records rows = rows ≡ map (map (row_by_owner (length records))) records
