-- The reduction of requests by place, from the last level up.
use Rattle.std.specs.Prelude.{◌≡◌, ℕ, ◌+◌, ◌%◌, ◌^◌, ◌<◌, ◌≤◌, ◌⊎◌, Bool, true, false, List, length, slice_get, Some, All}
use Rattle.std.specs.Prelude.{Result, IfErr, OnOk}
use Rattle.slot_table.specs.Lists.{IsIn, IsOnce}
use Rattle.dd_store.specs.declared.reference.Ref.{Ref}
use Rattle.dd_store.specs.Functions.{Agree}
use Rattle.dd_store.specs.Complements.{complement_by}
use Rattle.dd_store.specs.Nodes.{Nodes, IsSound, count_of}
use Rattle.req_table.specs.declared.Key.{Key}
use Rattle.req_table.specs.Keys.{meaning}
use Rattle.expand_work.specs.declared.fault.WaveFault.{WaveFault}
use Rattle.expand_work.specs.declared.fault.WaveFault.TheVariants as wave_faults
use Rattle.reduce_up.specs.Reducing.{IsKeyAt, IsAnswer, IsAnswerAt, AddsDescribed, LacksAnswer}
use Rattle.reduce_up.specs.Waves.{Entry, IsEntry, IsWanted}
use Rattle.req_table.specs.declared.packed_child.PackedChild.{PackedChild}
use Rattle.req_table.specs.declared.packed_child.PlacedChild.TheVariants.{Done, Ask}
use Rattle.req_table.specs.Places.{row, IsAtPlace}
use Rattle.reduce_up.specs.ByPlace.{AreExpanded}
use Rattle.reduce_up.specs.OverParts.{level_over}
use Rattle.reduce_up.specs.declared.up.LevelToReduce.{LevelToReduce}

-- the diagram of a placed child
abbrev pub ResolvesTo : List (List Ref) → PackedChild → Ref → Type 0
ResolvesTo answers (Done d) r = r ≡ d
ResolvesTo answers (Ask l p m) r = (a : Ref) × IsAtPlace answers l p a × (r ≡ complement_by m a)

-- a placed child of a level below v
abbrev pub IsBelow : ℕ → PackedChild → Type 0
IsBelow v (Done d) = Unit {0}
IsBelow v (Ask l p m) = v < l

-- a child whose diagram is known, below level v, and denotes the key's function with the bit of level v set to b
abbrev pub IsKnown : Nodes → List (List Ref) → ℕ → Key → Bool → PackedChild → Type 0
IsKnown s answers v k b d = IsBelow v d × ((r : Ref) × ResolvesTo answers d r × IsAnswerAt s v k b r)

-- the children of a level's requests, those of all parts, one part after the other
abbrev pub children_of : LevelToReduce → List (PackedChild × PackedChild)
children_of l = level_over l.parts.now l.number

-- the functions of the keys of level v
abbrev pub AskedAt : Nodes → List (List Key) → ℕ → ℕ → (List Bool → Bool) → Type 0
AskedAt s tables v w f = (w ≡ v) × ((q : ℕ) × (k : Key) × IsAtPlace tables v q k × Agree s.levels f (meaning s k))

-- level v can be reduced: each key has its pair of children, and their diagrams are known
pub record IsReadyAt (s : Nodes) (tables : List (List Key)) (pairs : List (PackedChild × PackedChild)) (answers : List (List Ref))
    (v : ℕ) : Type 0 where
  pub bounded : v < s.levels
  pub counts : length pairs ≡ length (row tables v)
  pub keys : (q : ℕ) (k : Key) → IsAtPlace tables v q k → IsKeyAt s v k
  pub low : (q : ℕ) (k : Key) (d : PackedChild × PackedChild) → IsAtPlace tables v q k → slice_get pairs q ≡ Some d → IsKnown s answers v k false d.0
  pub high : (q : ℕ) (k : Key) (d : PackedChild × PackedChild) → IsAtPlace tables v q k → slice_get pairs q ≡ Some d → IsKnown s answers v k true d.1

-- the first i keys of level v are reduced: from the store `start` to the store s, with these diagrams
pub record IsLevelReduced (start : Nodes) (tables : List (List Key)) (v i : ℕ) (s : Nodes) (own : List Ref) : Type 0 where
  pub held : IsSound s
  pub adds : AddsDescribed start s (AskedAt start tables v)
  pub count : length own ≡ i
  pub answered : (q : ℕ) (k : Key) (r : Ref) → IsAtPlace tables v q k → slice_get own q ≡ Some r → IsAnswer s k r

-- the cause of a level's fault: Full means that the level has a key, and that the store has more nodes than its limit,
-- or as many and lacks the node of some key of the level
abbrev pub IsLevelFault : Nodes → List (List Key) → ℕ → WaveFault → Type 0
IsLevelFault s tables v wave_faults.OutOfMemory = Unit {0}
IsLevelFault s tables v wave_faults.NoWorker = ⊥
IsLevelFault s tables v wave_faults.TooManyRequests = ⊥
IsLevelFault s tables v wave_faults.Stopped = ⊥
IsLevelFault s tables v wave_faults.Full =
    (q : ℕ) × (k : Key) × IsAtPlace tables v q k × ((s.limit < count_of s) ⊎ ((count_of s ≡ s.limit) × LacksAnswer s v k))

-- level v of the parts may be reduced: the store is sound, each part has the level, and the level is ready for some
-- tables
pub record MayReduceLevel (s : Nodes) (parts : List (List (List (PackedChild × PackedChild)))) (answers : List (List Ref)) (v : ℕ) : Type 0 where
  pub held : IsSound s
  pub levels : All (λ rows. v < length rows) parts
  pub tables : List (List Key)
  pub ready : IsReadyAt s tables (level_over parts v) answers v

-- the result of reducing level v, and what is left
pub record ReducesLevel (old : Nodes) (tables : List (List Key)) (v : ℕ) (result : Result (Unit {0}) WaveFault) (new : Nodes)
    (own : List Ref) : Type 0 where
  -- also after a refusal the only new nodes are those of keys of the level
  pub adds : AddsDescribed old new (AskedAt old tables v)
  -- without a fault all keys have their diagrams
  pub whole : OnOk result (IsLevelReduced old tables v (length (row tables v)) new own)
  -- a fault has its cause
  pub fault : IfErr result (λ e. IsLevelFault new tables v e)

-- the count is higher by so many, modulo 2^64
abbrev pub AreMore : (more before after : ℕ) → Type 0
AreMore more before after = after % 2 ^ 64 ≡ (before + more) % 2 ^ 64

-- the store is within its limit, or no level from v on has a key and the store is still `start`
abbrev pub IsWithinBelow : Nodes → List (List Key) → ℕ → Nodes → Type 0
IsWithinBelow start tables v s =
    (count_of s ≤ s.limit) ⊎ (((w q : ℕ) (k : Key) → v ≤ w → IsAtPlace tables w q k → ⊥) × (s ≡ start))

-- the levels from v on have their diagrams: from the store `start` to the store s, whose new nodes denote functions
-- that the entries want, or complements of such
pub record AreReducedBelow (start : Nodes) (entries : List Entry) (tables : List (List Key)) (v : ℕ) (s : Nodes)
    (answers : List (List Ref)) : Type 0 where
  pub held : IsSound s
  pub adds : AddsDescribed start s (IsWanted start entries)
  pub levels : length answers ≡ start.levels
  pub counts : (w q : ℕ) (k : Key) → v ≤ w → IsAtPlace tables w q k → length (row answers w) ≡ length (row tables w)
  pub answered : (w q : ℕ) (k : Key) (r : Ref) → v ≤ w → IsAtPlace tables w q k → IsAtPlace answers w q r → IsAnswer s k r
  pub within : IsWithinBelow start tables v s

-- ---- how many requests are reduced
-- between two counts modulo 2^64 exactly the requests of the levels from u on and before v were reduced, each once
pub record AreCounted (tables : List (List Key)) (u v : ℕ) (before after : ℕ) : Type 0 where
  pub requests : List Key
  pub once : IsOnce requests
  pub stands : (k : Key) → IsIn requests k → (w : ℕ) × (q : ℕ) × (u ≤ w) × (w < v) × IsAtPlace tables w q k
  pub whole : (w q : ℕ) (k : Key) → u ≤ w → w < v → IsAtPlace tables w q k → IsIn requests k
  pub count : AreMore (length requests) before after

-- ---- the state in which a reduction begins
-- the levels before v are expanded, none has a request twice, and those from v on have their diagrams
pub record AreReady (s : Nodes) (entries : List Entry) (v : ℕ) (rows : List (List (PackedChild × PackedChild))) (answers : List (List Ref))
    (tables : List (List Key)) : Type 0 where
  pub roots : List PackedChild
  pub expanded : AreExpanded s entries roots v tables rows
  pub once : (w : ℕ) → w < v → IsOnce (row tables w)
  pub reduced : AreReducedBelow s entries tables v s answers

-- the levels before v may be reduced: the entries are of the store, and the levels are ready
pub record MayReduce (s : Nodes) (entries : List Entry) (v : ℕ) (rows : List (List (PackedChild × PackedChild))) (answers : List (List Ref))
    (tables : List (List Key)) : Type 0 where
  pub operands : All (IsEntry s) entries
  pub ready : AreReady s entries v rows answers tables
