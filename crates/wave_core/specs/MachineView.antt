-- What contracts see of a machine: lists by place. The pair of s and k is at the place s * workers + k, and level v of
-- worker k at k * levels + v.
use Rattle.std.specs.Prelude.{◌≡◌, ℕ, ◌+◌, ◌-◌, ◌*◌, ◌<◌, ◌≤◌, List, [], ◌∷◌, ◌++◌, length, map, filter, ◌==◌, slice_index_or, slice_set}
use Rattle.dd_store.specs.Nodes.{Nodes}
use Rattle.req_table.specs.declared.Key.{Key}
use Rattle.req_table.specs.declared.Record.{Record}
use Rattle.req_table.specs.declared.Child.{Child}
use Rattle.req_table.specs.declared.Child.TheVariants.{Done, Ask}
use Rattle.req_table.specs.TerminalCase.{owner_of}
use Rattle.req_table.specs.declared.Item.{Item}
use Rattle.req_table.specs.Wave.{Wave}
use Rattle.req_table.specs.Lanes.{sent_by, ends, asks_at, IsFair}
use Rattle.req_table.specs.Settled.{IsDistinctOf, key_of, round_robin_from}
use Rattle.req_table.specs.Keys.{wave_at, owner}
use Rattle.wave_core.specs.declared.Event.{Event}
use Rattle.wave_core.specs.Step.{State, IsStep, IsAllowed}
use Rattle.wave_core.specs.Counting.{sum_over, noted}

-- `ends_sent` counts the Ends that s has sent to k; `ends_taken`, at the pair of k and s, those of s that k has taken;
-- `tables` has the distinct keys that k has taken at each level; `kept` counts the requests that were kept.
pub record MachineView : Type 0 where
  pub workers : ℕ
  pub levels : ℕ
  pub sent : List (List Item)
  pub ends_sent : List ℕ
  pub due : List (List Key)
  pub waiting : List (List Item)
  pub taken : List (List Item)
  pub ends_taken : List ℕ
  pub tables : List (List Key)
  pub rows : List (List Record)
  pub at : List ℕ
  pub kept : ℕ

abbrev pub by_place : {X : Type 0} → ℕ → List (List X) → ℕ → ℕ → List X
by_place w xss s k = slice_index_or xss (s * w + k) []

abbrev pub list_of : {X : Type 0} → List (List X) → ℕ → List X
list_of xss k = slice_index_or xss k []

abbrev pub number_of : ℕ → List ℕ → ℕ → ℕ → ℕ
number_of w ns s k = slice_index_or ns (s * w + k) 0

abbrev pub state_of : MachineView → State
state_of v = record {
  sent = by_place v.workers v.sent;
  due = by_place v.workers v.due;
  taken = list_of v.taken;
  waiting = list_of v.waiting;
  rows = by_place v.levels v.rows;
  at = λ k. slice_index_or v.at k 0;
}

abbrev pub wave_of_view : Nodes → MachineView → Wave
wave_of_view S v = wave_at S v.levels v.workers

-- the event leads a machine from one view to the other
abbrev pub Does : Nodes → MachineView → Event → MachineView → Type 0
Does S old event new = IsStep (wave_of_view S old) (state_of old) event (state_of new)

-- the event is allowed
abbrev pub Allows : Nodes → MachineView → Event → Type 0
Allows S v event = IsAllowed (wave_of_view S v) (state_of v) event

-- what `by` has taken of each worker is fair
abbrev pub TookFairly : Nodes → MachineView → ℕ → Type 0
TookFairly S v by = (s : ℕ) → s < v.workers → IsFair (wave_of_view S v).scope (sent_by s (list_of v.taken by))

pub record IsShaped (v : MachineView) : Type 0 where
  pub few_workers : v.workers ≤ 16
  pub few_levels : v.levels ≤ 4096
  pub sent : length v.sent ≡ v.workers * v.workers
  pub ends_sent : length v.ends_sent ≡ v.workers * v.workers
  pub due : length v.due ≡ v.workers * v.workers
  pub waiting : length v.waiting ≡ v.workers
  pub taken : length v.taken ≡ v.workers
  pub ends_taken : length v.ends_taken ≡ v.workers * v.workers
  pub tables : length v.tables ≡ v.workers * v.levels
  pub rows : length v.rows ≡ v.workers * v.levels
  pub at : length v.at ≡ v.workers

-- a table has the distinct keys that were asked for, and the row has the first of them
pub record IsTable (xs table : List Key) (row : List Record) : Type 0 where
  pub distinct : IsDistinctOf xs table
  pub rest : List Key
  pub front : table ≡ map key_of row ++ rest

pub record IsConsistent (v : MachineView) : Type 0 where
  pub shape : IsShaped v
  pub ends_sent : (s k : ℕ) → s < v.workers → k < v.workers → number_of v.workers v.ends_sent s k ≡ ends (by_place v.workers v.sent s k)
  pub ends_taken : (k s : ℕ) → k < v.workers → s < v.workers → number_of v.workers v.ends_taken k s ≡ ends (sent_by s (list_of v.taken k))
  pub kept : v.kept ≤ sum_over v.workers v.workers (λ s k. length (by_place v.workers v.sent s k))
  pub tables : (k l : ℕ) → k < v.workers → l < v.levels → IsTable (asks_at l (list_of v.taken k)) (by_place v.levels v.tables k l)
      (by_place v.levels v.rows k l)

-- The number of events that were done. Each has sent an item, taken one, made a record or passed a level; an event that
-- kept a request has both sent and taken it, and counts once.
abbrev pub done_of : MachineView → ℕ
done_of v = noted v.workers v.levels (state_of v) - v.kept

-- of itself, `by` has taken and has waiting what it has sent, in order
abbrev pub IsOwnInOrder : MachineView → ℕ → Type 0
IsOwnInOrder v by = by_place v.workers v.sent by by ≡ sent_by by (list_of v.taken by) ++ sent_by by (list_of v.waiting by)

-- the due lists after a child of a record of `by` was added, and after both children were
abbrev pub due_with_child : ℕ → ℕ → Child → List (List Key) → List (List Key)
due_with_child w by (Done r) d = d
due_with_child w by (Ask l x m) d = slice_set d (by * w + owner_of x.op x.f x.g w)
    (slice_index_or d (by * w + owner_of x.op x.f x.g w) [] ++ x ∷ [])

abbrev pub due_with_children : ℕ → ℕ → Record → List (List Key) → List (List Key)
due_with_children w by r d = due_with_child w by r.high (due_with_child w by r.low d)

-- root i is due from worker i modulo their number, to the root's owner
abbrev pub AreDistributed : ℕ → List Key → List (List Key) → Type 0
AreDistributed w roots due = (s k : ℕ) → s < w → k < w → by_place w due s k ≡ filter (λ x. owner w x == k) (round_robin_from w s 0 roots)
