-- The memory of a worker: empty at its beginning, and what is in it at its end.
use Rattle.std.specs.Prelude.{◌≡◌, ℕ, List, [], replicate}
use Rattle.dd_store.specs.Nodes.{Nodes}
use Rattle.req_table.specs.declared.Record.{Record}
use Rattle.req_table.specs.declared.packed_child.PackedChild.{PackedChild}
use Rattle.expand_work.specs.OwnerRows.{recorded}
use Rattle.expand_work.specs.declared.space.WorkerMemory.{WorkerMemory}

-- The memory has this number of levels and of workers, and nothing in it.
pub record IsEmptyMemory (levels workers : ℕ) (s : WorkerMemory) : Type 0 where
  pub tables : s.tables ≡ replicate levels []
  pub rows : s.rows ≡ replicate levels []
  pub noted : s.noted ≡ replicate workers []

-- the records of the keys in a worker's tables
abbrev pub records_in : Nodes → WorkerMemory → List (List Record)
records_in S s = recorded S s.tables

-- the children of all its requests, by level
abbrev pub rows_in : WorkerMemory → List (List (PackedChild × PackedChild))
rows_in s = s.rows

-- the memory without its rows
abbrev pub without_rows : WorkerMemory → WorkerMemory
without_rows s = record s { rows = [] }

-- the places that the worker has noted, by sender
abbrev pub noted_in : WorkerMemory → List (List ℕ)
noted_in s = s.noted
