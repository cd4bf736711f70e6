-- Records by level, and their reduction from the last level up.
use Rattle.std.specs.Prelude.{◌≡◌, ℕ, ◌<◌, ◌≤◌, ◌⊎◌, Bool, List, length, Contains}
use Rattle.dd_store.specs.declared.reference.Ref.{Ref}
use Rattle.req_table.specs.declared.Key.{Key}
use Rattle.req_table.specs.declared.Child.{Child}
use Rattle.req_table.specs.declared.Child.TheVariants.{Done, Ask}
use Rattle.req_table.specs.declared.Record.{Record}
use Rattle.expand_work.specs.declared.fault.WaveFault.{WaveFault}
use Rattle.expand_work.specs.declared.fault.WaveFault.TheVariants as wave_faults
use Rattle.dd_store.specs.Functions.{Agree}
use Rattle.dd_store.specs.Nodes.{Nodes, IsSound, count_of}
use Rattle.reduce_up.specs.Reducing.{IsRecordAt, AreAnswers, HasAnswer, AddsDescribed, LacksAnswer}
use Rattle.req_table.specs.Keys.{meaning}
use Rattle.req_table.specs.Tables.{row_at}

-- a child that is a request is the key of a record of its level
abbrev pub IsAsked : List (List Record) → Child → Type 0
IsAsked rows (Done r) = Unit {0}
IsAsked rows (Ask l k m) = (r : Record) × Contains (row_at rows l) r × (r.key ≡ k)

-- a row for each level, of records of that level, whose children are recorded
pub record AreRecords (s : Nodes) (rows : List (List Record)) : Type 0 where
  pub levels : length rows ≡ s.levels
  pub records : (v : ℕ) (r : Record) → v < s.levels → Contains (row_at rows v) r → IsRecordAt s v r
  pub low_asked : (v : ℕ) (r : Record) → v < s.levels → Contains (row_at rows v) r → IsAsked rows r.low
  pub high_asked : (v : ℕ) (r : Record) → v < s.levels → Contains (row_at rows v) r → IsAsked rows r.high

-- the functions of the keys of a level's records
abbrev pub AskedInRows : Nodes → List (List Record) → ℕ → (List Bool → Bool) → Type 0
AskedInRows s rows v f = (r : Record) × Contains (row_at rows v) r × Agree s.levels f (meaning s r.key)

-- the store s is within its limit, or no level from v on has a record and s is still the store `start`
abbrev pub IsWithinFrom : Nodes → List (List Record) → ℕ → Nodes → Type 0
IsWithinFrom start rows v s =
    (count_of s ≤ s.limit) ⊎ (((w : ℕ) (r : Record) → v ≤ w → Contains (row_at rows w) r → ⊥) × (s ≡ start))

-- the levels from v on are reduced: from the store `start` to the store s, with the answers `pairs`
pub record AreReducedFrom (start : Nodes) (rows : List (List Record)) (v : ℕ) (s : Nodes) (pairs : List (Key × Ref)) : Type 0 where
  pub held : IsSound s
  pub adds : AddsDescribed start s (AskedInRows start rows)
  pub answers : AreAnswers s pairs
  pub done : (w : ℕ) (r : Record) → v ≤ w → w < start.levels → Contains (row_at rows w) r → HasAnswer pairs r.key
  pub within : IsWithinFrom start rows v s

-- each record's key has an answer, and each answer is the diagram in the store s of its key's function
pub record AreReduced (rows : List (List Record)) (s : Nodes) (pairs : List (Key × Ref)) : Type 0 where
  pub answers : AreAnswers s pairs
  pub done : (v : ℕ) (r : Record) → Contains (row_at rows v) r → HasAnswer pairs r.key

-- the cause of a fault: Full means that there is a record, and that the store has more nodes than its limit, or as many
-- and lacks the node of some record's key
abbrev pub IsReduceFault : Nodes → List (List Record) → WaveFault → Type 0
IsReduceFault s rows wave_faults.OutOfMemory = Unit {0}
IsReduceFault s rows wave_faults.NoWorker = ⊥
IsReduceFault s rows wave_faults.TooManyRequests = ⊥
IsReduceFault s rows wave_faults.Stopped = ⊥
IsReduceFault s rows wave_faults.Full =
    (v : ℕ) × (r : Record) × Contains (row_at rows v) r × ((s.limit < count_of s) ⊎ ((count_of s ≡ s.limit) × LacksAnswer s v r.key))
