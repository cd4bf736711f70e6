-- Requests of a store, and their answers.
use Rattle.std.specs.Prelude.{◌≡◌, ℕ, ◌+◌, ◌<◌, ◌≤◌, ◌⊎◌, Bool, true, false, List, [], ◌∷◌, ◌++◌, length, Contains, min, slice_index_or}
use Rattle.std.specs.Prelude.{Result, IfErr, OnOk}
use Rattle.std.proofs.Common.{suc}
use Rattle.dd_store.specs.declared.reference.Ref.{Ref}
use Rattle.req_table.specs.declared.Key.{Key}
use Rattle.req_table.specs.declared.Child.{Child}
use Rattle.req_table.specs.declared.Child.TheVariants.{Done, Ask}
use Rattle.req_table.specs.declared.Record.{Record}
use Rattle.dd_store.specs.declared.StoreFault.{StoreFault}
use Rattle.dd_store.specs.declared.StoreFault.TheVariants as store_faults
use Rattle.expand_work.specs.declared.fault.WaveFault.{WaveFault}
use Rattle.expand_work.specs.declared.fault.WaveFault.TheVariants as wave_faults
pub use Rattle.expand_work.specs.Fault.{wave_fault}
use Rattle.dd_store.specs.Functions.{Agree, DependsOn, OfEither}
use Rattle.dd_store.specs.Complements.{complement_by, complemented}
use Rattle.req_table.specs.Keys.{meaning}
use Rattle.dd_store.specs.Parts.Part.{node}
use Rattle.dd_store.specs.Nodes.{Nodes, den, IsSound, count_of}
use Rattle.dd_store.specs.View.{part, Has, top, Keeps}

-- a key of the store, at its level
pub record IsKeyAt (s : Nodes) (v : ℕ) (k : Key) : Type 0 where
  pub first : Has s k.f
  pub second : Has s k.g
  pub level : min (top s k.f) (top s k.g) ≡ v
  pub bounded : v < s.levels

-- r is the diagram of the key's operation on the functions of its operands
pub record IsAnswer (s : Nodes) (k : Key) (r : Ref) : Type 0 where
  pub first : Has s k.f
  pub second : Has s k.g
  pub has : Has s r
  pub not_above : min (top s k.f) (top s k.g) ≤ top s r
  pub denotes : Agree s.levels (den s r) (meaning s k)

-- r denotes the key's function with the bit of its level set to b
pub record IsAnswerAt (s : Nodes) (v : ℕ) (k : Key) (b : Bool) (r : Ref) : Type 0 where
  pub has : Has s r
  pub below : v < top s r
  pub denotes : (q x : List Bool) → length q ≡ v → v + suc (length x) ≡ s.levels → den s r (q ++ b ∷ x) ≡ meaning s k (q ++ b ∷ x)

-- a child for b: an answer, or a deeper key with the same function, or with its complement
abbrev pub IsChild : Nodes → ℕ → Key → Bool → Child → Type 0
IsChild s v k b (Done r) = IsAnswerAt s v k b r
IsChild s v k b (Ask l c m) = (v < l) × IsKeyAt s l c × ((q x : List Bool) → length q ≡ v → v + suc (length x) ≡ s.levels
    → complemented m (meaning s c (q ++ b ∷ x)) ≡ meaning s k (q ++ b ∷ x))

-- a record of level v
pub record IsRecordAt (s : Nodes) (v : ℕ) (r : Record) : Type 0 where
  pub key : IsKeyAt s v r.key
  pub low : IsChild s v r.key false r.low
  pub high : IsChild s v r.key true r.high

-- each pair is a key with its answer
abbrev pub AreAnswers : Nodes → List (Key × Ref) → Type 0
AreAnswers s pairs = (k : Key) (r : Ref) → Contains pairs (k, r) → IsAnswer s k r

-- the key has an answer among the pairs
abbrev pub HasAnswer : List (Key × Ref) → Key → Type 0
HasAnswer pairs k = (r : Ref) × Contains pairs (k, r)

-- the key has an answer in new, and each pair of new is one of old or the key with r; a key that has an answer keeps one
pub record NotesAnswer (old : List (Key × Ref)) (k : Key) (r : Ref) (new : List (Key × Ref)) : Type 0 where
  pub noted : HasAnswer new k
  pub only : (l : Key) (a : Ref) → Contains new (l, a) → Contains old (l, a) ⊎ ((l ≡ k) × (a ≡ r))
  pub more : (l : Key) → HasAnswer old l → HasAnswer new l

-- a child that is a request has an answer already
abbrev pub IsReady : List (Key × Ref) → Child → Type 0
IsReady pairs (Done r) = Unit {0}
IsReady pairs (Ask l k m) = HasAnswer pairs k

-- the diagram of a child: its answer, or that of its request, complemented if the child is
abbrev pub IsResolved : List (Key × Ref) → Child → Ref → Type 0
IsResolved pairs (Done r) answer = answer ≡ r
IsResolved pairs (Ask l k m) answer = (r : Ref) × Contains pairs (k, r) × (answer ≡ complement_by m r)

-- new keeps what old has, and each other node of new denotes a function that is described for the node's level, or the
-- complement of one
pub record AddsDescribed (old new : Nodes) (Described : ℕ → (List Bool → Bool) → Type 0) : Type 0 where
  pub keeps : Keeps old new
  pub described : (m : Ref) → Has new m → Has old m ⊎ ((v : ℕ) × (lo : Ref) × (hi : Ref) × (part new m ≡ node v lo hi)
      × OfEither (Described v) (den new m))

-- the functions of the keys of a row's records
abbrev pub AskedBy : Nodes → ℕ → List Record → ℕ → (List Bool → Bool) → Type 0
AskedBy s v row w f = (w ≡ v) × ((r : Record) × Contains row r × Agree s.levels f (meaning s r.key))

-- the records of the row of level v before record i are reduced: from the store `start` with the answers `before` to
-- the store s with the answers `pairs`
pub record IsRowReduced (start : Nodes) (before : List (Key × Ref)) (v : ℕ) (row : List Record) (i : ℕ) (s : Nodes)
    (pairs : List (Key × Ref)) : Type 0 where
  pub held : IsSound s
  pub adds : AddsDescribed start s (AskedBy start v row)
  pub answers : AreAnswers s pairs
  pub more : (k : Key) → HasAnswer before k → HasAnswer pairs k
  pub done : (j : ℕ) (d : Record) → j < i → HasAnswer pairs (slice_index_or row j d).key

-- each record is one of the level, and its children have answers
pub record IsRow (s : Nodes) (pairs : List (Key × Ref)) (v : ℕ) (row : List Record) : Type 0 where
  pub records : (r : Record) → Contains row r → IsRecordAt s v r
  pub low_ready : (r : Record) → Contains row r → IsReady pairs r.low
  pub high_ready : (r : Record) → Contains row r → IsReady pairs r.high

-- the key's function depends on the bit of level v, and no reference denotes it
abbrev pub LacksAnswer : Nodes → ℕ → Key → Type 0
LacksAnswer s v k = DependsOn s.levels v (meaning s k) × ((r : Ref) → Has s r → Agree s.levels (den s r) (meaning s k) → ⊥)

-- the cause of a record's fault: Full means that the store has as many nodes as its limit and lacks the node of the
-- record's key
abbrev pub IsRecordFault : Nodes → ℕ → Key → StoreFault → Type 0
IsRecordFault s v k store_faults.OutOfMemory = Unit {0}
IsRecordFault s v k store_faults.Full = (s.limit ≤ count_of s) × LacksAnswer s v k

-- the cause of a row's fault: Full means that the row of level v has a record, and that the store has more nodes than
-- its limit, or as many and lacks the node of some record's key
abbrev pub IsRowFault : Nodes → ℕ → List Record → WaveFault → Type 0
IsRowFault s v row wave_faults.OutOfMemory = Unit {0}
IsRowFault s v row wave_faults.NoWorker = ⊥
IsRowFault s v row wave_faults.TooManyRequests = ⊥
IsRowFault s v row wave_faults.Stopped = ⊥
IsRowFault s v row wave_faults.Full =
    (r : Record) × Contains row r × ((s.limit < count_of s) ⊎ ((count_of s ≡ s.limit) × LacksAnswer s v r.key))

-- the store `new` is within its limit, or the row is empty and the store is as before
abbrev pub IsRowWithin : Nodes → List Record → Nodes → Type 0
IsRowWithin old row new = (count_of new ≤ new.limit) ⊎ ((row ≡ []) × (new ≡ old))

-- a row of level v may be reduced: the store is sound, the pairs are answers in it, and the children of the records
-- have answers
pub record MayReduceRow (s : Nodes) (pairs : List (Key × Ref)) (v : ℕ) (records : List Record) : Type 0 where
  pub held : IsSound s
  pub answers : AreAnswers s pairs
  pub row : IsRow s pairs v records

-- the result of reducing a row of level v, and what is left: also after a refusal the pairs are answers, and the only
-- new nodes are those of the row's keys; all records have answers, or the fault has its cause
pub record ReducesRow (old : Nodes) (before : List (Key × Ref)) (v : ℕ) (row : List Record) (result : Result (Unit {0}) WaveFault)
    (new : Nodes) (pairs : List (Key × Ref)) : Type 0 where
  pub left : IsRowReduced old before v row 0 new pairs
  pub whole : OnOk result (IsRowReduced old before v row (length row) new pairs)
  pub fault : IfErr result (λ e. IsRowFault new v row e)
