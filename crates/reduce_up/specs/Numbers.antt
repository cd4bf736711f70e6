-- The children of the workers' requests, with their places among all requests of their levels, which are those of the
-- workers, one worker after the other.
use Rattle.std.specs.Prelude.{◌≡◌, ℕ, zero, suc, ◌-◌, ◌^◌, ◌<◌, ◌≤◌, false, List, [], ◌∷◌, ◌++◌, length, map, filter, drop, slice_get, slice_index_or, Some, All, OnOk}
use denote.Ref.{Bor}
use Rattle.std.specs.List.{AllZip}
use Rattle.dd_store.specs.Nodes.{Nodes}
use Rattle.req_table.specs.declared.Key.{Key}
use Rattle.req_table.specs.declared.Child.{Child}
use Rattle.req_table.specs.declared.Record.{Record}
use Rattle.req_table.specs.declared.Child.TheVariants.{Done, Ask}
use Rattle.req_table.specs.declared.packed_child.PackedChild.{PackedChild}
use Rattle.req_table.specs.Keys.{level_of}
use Rattle.req_table.specs.Places.{row, IsPlaced}
use Rattle.req_table.specs.Settled.{key_of, level_of_rows, asked, asked_by, asked_below, round_robin_from}
use Rattle.expand_work.specs.WavePorts.{row_of}
use Rattle.expand_work.specs.WaveParts.{PartsView, noted_of}
use Rattle.expand_work.specs.OwnerRows.{by_owner, row_by_owner}
use Rattle.expand_work.specs.Work.{owned_by}
use Rattle.reduce_up.specs.declared.numbers.NumberingInput.{NumberingInput}
use Rattle.reduce_up.specs.declared.numbers.NumberingTask.{NumberingTask}

-- the keys of a level, of the first n workers, one worker after the other
abbrev pub keys_at : ℕ → PartsView → ℕ → List Key
keys_at n p v = map key_of (level_of_rows n (row_of p.rows) v)

-- the keys of each of the first levels
abbrev pub keys_of : ℕ → PartsView → ℕ → List (List Key)
keys_of n p zero = []
keys_of n p (suc v) = keys_of n p v ++ keys_at n p v ∷ []

-- a pair of placed children is that of a record
abbrev pub IsNumbered : List (List Key) → Record → PackedChild × PackedChild → Type 0
IsNumbered tables r d = IsPlaced tables d.0 r.low × IsPlaced tables d.1 r.high

-- the rows of n workers have the children of their records, by place, and each root has the place of its request
pub record AreNumbered (S : Nodes) (n : ℕ) (roots : List Key) (p : PartsView) (rows : List (List (List (PackedChild × PackedChild))))
    (placed : List PackedChild) : Type 0 where
  pub many : length rows ≡ n
  pub levels : (k : ℕ) (d : List (List (PackedChild × PackedChild))) → k < n → length (slice_index_or rows k d) ≡ S.levels
  pub each : (k v : ℕ) → k < n → v < S.levels
      → AllZip (IsNumbered (keys_of n p S.levels)) (row_of p.rows k v) (row (slice_index_or rows k []) v)
  pub of_roots : AllZip (λ x d. IsPlaced (keys_of n p S.levels) d (Ask (level_of S x) x false)) roots placed

-- ---- what is known while places are found
-- for each of n workers, how many requests of a level the workers before it have
abbrev pub starts_at : ℕ → (ℕ → ℕ → List Record) → ℕ → List ℕ
starts_at zero rows v = []
starts_at (suc k) rows v = starts_at k rows v ++ length (level_of_rows k rows v) ∷ []

-- these numbers for each of the first levels, one level after the other
abbrev pub starts_below : ℕ → ℕ → (ℕ → ℕ → List Record) → List ℕ
starts_below zero n rows = []
starts_below (suc v) n rows = starts_below v n rows ++ starts_at n rows v

-- each of these levels has fewer than 2 ^ 32 requests
abbrev pub AreFew : ℕ → ℕ → (ℕ → ℕ → List Record) → Type 0
AreFew levels n rows = (v : ℕ) → v < levels → length (level_of_rows n rows v) < 2 ^ 32

-- a child that is a request has the level of this request
abbrev pub HasItsLevel : Nodes → Child → Type 0
HasItsLevel S (Done r) = Unit {0}
HasItsLevel S (Ask l x m) = l ≡ level_of S x

-- each child of a record that is a request has the level of this request
abbrev pub HaveTheirLevels : Nodes → Record → Type 0
HaveTheirLevels S r = HasItsLevel S r.low × HasItsLevel S r.high

-- the keys of all levels of an input
abbrev pub keys_in : NumberingInput → List (List Key)
keys_in f = keys_of f.workers f.notes.now f.store.now.levels

-- the input of numbering is as the code makes it
pub record IsNumberingInput (f : NumberingInput) : Type 0 where
  pub some : 0 < f.workers
  pub levels : (k : ℕ) → k < f.workers → length (slice_index_or f.notes.now.rows k []) ≡ f.store.now.levels
  pub many_noted : length f.notes.now.noted ≡ f.workers
  pub senders : (k : ℕ) → k < f.workers → length (slice_index_or f.notes.now.noted k []) ≡ f.workers
  pub levels_match : (k v : ℕ) → k < f.workers → v < f.store.now.levels → All (HaveTheirLevels f.store.now) (row_of f.notes.now.rows k v)
  pub starts_are : f.starts.now ≡ starts_below f.store.now.levels f.workers (row_of f.notes.now.rows)
  pub few : AreFew f.store.now.levels f.workers (row_of f.notes.now.rows)

-- s is one of its workers
pub record IsSender (f : NumberingInput) (s : ℕ) : Type 0 where
  pub input : IsNumberingInput f
  pub within : s < f.workers

-- the request is at this place of those of worker k and its level
abbrev pub HasPlaceOf : NumberingInput → ℕ → Key → ℕ → Type 0
HasPlaceOf f k x m = slice_get (map key_of (row_of f.notes.now.rows k (level_of f.store.now x))) m ≡ Some x

-- each worker has noted these places for what a sender has still to ask
pub record AreNext (f : NumberingInput) (rest : List Key) (left : List (Bor (List ℕ))) : Type 0 where
  pub long : length left ≡ f.workers
  pub each : (k : ℕ) (d : Bor (List ℕ)) → k < f.workers
      → AllZip (HasPlaceOf f k) (filter (owned_by f.workers k) rest) (slice_index_or left k d).now

-- the child, for which a row has the owner, is what the sender asks next
pub record IsNext (f : NumberingInput) (left : List (Bor (List ℕ))) (placed : PackedChild) (c : Child) (rest : List Key) : Type 0 where
  pub owned : placed ≡ by_owner f.workers c
  pub levels_match : HasItsLevel f.store.now c
  pub places : AreNext f (asked c ++ rest) left

-- what each worker has noted of all that s asks of it
pub record AreNoted (f : NumberingInput) (s : ℕ) (left : List (Bor (List ℕ))) : Type 0 where
  pub long : length left ≡ f.workers
  pub each : (k : ℕ) (d : Bor (List ℕ)) → k < f.workers → (slice_index_or left k d).now ≡ noted_of f.notes.now.noted k s

-- what the records of the levels from v on ask for, of so many levels
abbrev pub asked_up : ℕ → ℕ → (ℕ → List Record) → List Key
asked_up zero v rows = []
asked_up (suc m) v rows = asked_by (rows v) ++ asked_up m (suc v) rows

-- what the records of worker s ask for, from level v on
abbrev pub asked_from : NumberingInput → ℕ → ℕ → List Key
asked_from f s v = asked_up (f.store.now.levels - v) v (row_of f.notes.now.rows s)

-- the pairs are the children, by place, of worker s's records of level v
abbrev pub IsRowNumbered : NumberingInput → ℕ → ℕ → List (PackedChild × PackedChild) → Type 0
IsRowNumbered f s v pairs = AllZip (IsNumbered (keys_in f)) (row_of f.notes.now.rows s v) pairs

-- ---- tasks of workers
-- a new task of worker s, with these rows
pub record IsNew (f : NumberingInput) (s : ℕ) (rows : List (List (PackedChild × PackedChild))) (task : NumberingTask) : Type 0 where
  pub same : task.rows ≡ rows
  pub spare_row : task.spare_row ≡ []
  pub noted : AreNoted f s task.left.items

-- a new task for each of the first m workers, with that worker's rows
pub record AreNew (f : NumberingInput) (m : ℕ) (rows : List (List (List (PackedChild × PackedChild)))) (tasks : List NumberingTask) : Type 0 where
  pub long : length tasks ≡ m
  pub each : (s : ℕ) (d : NumberingTask) → s < m → IsNew f s (slice_index_or rows s []) (slice_index_or tasks s d)

-- the task of worker s, whose rows are as it has recorded them, and which has these keys still to ask
pub record IsTask (f : NumberingInput) (s : ℕ) (rest : List Key) (task : NumberingTask) : Type 0 where
  pub same : task.rows ≡ map (row_by_owner f.workers) (slice_index_or f.notes.now.rows s [])
  pub spare_row : task.spare_row ≡ []
  pub places : AreNext f rest task.left.items

-- all that worker s asks from root i on
abbrev pub asked_after : NumberingInput → List Key → ℕ → ℕ → List Key
asked_after f roots s i = round_robin_from f.workers s i (drop i roots) ++ asked_below f.store.now.levels (row_of f.notes.now.rows s)

-- the tasks of all workers, which have asked for the roots before i
pub record AreTasks (f : NumberingInput) (roots : List Key) (i : ℕ) (tasks : List NumberingTask) : Type 0 where
  pub long : length tasks ≡ f.workers
  pub each : (s : ℕ) (d : NumberingTask) → s < f.workers → IsTask f s (asked_after f roots s i) (slice_index_or tasks s d)

-- a root has the place of its request
abbrev pub IsRootPlaced : NumberingInput → Key → PackedChild → Type 0
IsRootPlaced f x d = IsPlaced (keys_in f) d (Ask (level_of f.store.now x) x false)

-- in the task of worker s the rows before level v have places, and those from v on are as the worker has recorded them
pub record IsNumberedTo (f : NumberingInput) (s v : ℕ) (task : NumberingTask) : Type 0 where
  pub levels : length task.rows ≡ f.store.now.levels
  pub done : (u : ℕ) → u < v → IsRowNumbered f s u (row task.rows u)
  pub left : (u : ℕ) → v ≤ u → u < f.store.now.levels → row task.rows u ≡ row_by_owner f.workers (row_of f.notes.now.rows s u)
  pub places : AreNext f (asked_from f s v) task.left.items
  pub spare_row : task.spare_row ≡ []

-- each worker's rows may be numbered in its task
pub record MayNumberAll (f : NumberingInput) (tasks : List NumberingTask) : Type 0 where
  pub long : length tasks ≡ f.workers
  pub each : (s : ℕ) (d : NumberingTask) → s < f.workers → IsNumberedTo f s 0 (slice_index_or tasks s d)

-- the rows of worker s have places in its task, unless memory was refused
abbrev pub IsTaskNumbered : NumberingInput → ℕ → NumberingTask → Type 0
IsTaskNumbered f s task = OnOk task.done (IsNumberedTo f s f.store.now.levels task)

pub record AreAllNumbered (f : NumberingInput) (tasks : List NumberingTask) : Type 0 where
  pub long : length tasks ≡ f.workers
  pub each : (s : ℕ) (d : NumberingTask) → s < f.workers → IsTaskNumbered f s (slice_index_or tasks s d)

-- all rows of worker s are numbered
abbrev pub AreLevelsNumbered : NumberingInput → ℕ → List (List (PackedChild × PackedChild)) → Type 0
AreLevelsNumbered f s rows = (length rows ≡ f.store.now.levels) × ((v : ℕ) → v < f.store.now.levels → IsRowNumbered f s v (row rows v))

-- all rows of the first m workers are numbered
pub record AreRowsNumbered (f : NumberingInput) (m : ℕ) (rows : List (List (List (PackedChild × PackedChild)))) : Type 0 where
  pub many : length rows ≡ m
  pub each : (k : ℕ) (d : List (List (PackedChild × PackedChild))) → k < m → AreLevelsNumbered f k (slice_index_or rows k d)
