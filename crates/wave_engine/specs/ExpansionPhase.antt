-- The way down by places, from the first level.
use Rattle.std.specs.Prelude.{◌≡◌, ℕ, ◌+◌, ◌%◌, ◌^◌, ◌<◌, ◌≤◌, List, [], length, slice_get, Some}
use Rattle.slot_table.specs.Lists.{IsIn, IsOnce}
use Rattle.req_table.specs.declared.Key.{Key}
use Rattle.dd_store.specs.Nodes.{Nodes}
use Rattle.req_table.specs.Keys.{level_of, wave_of}
use Rattle.req_table.specs.Reached.{IsReached}
use Rattle.reduce_up.specs.ByPlace.{AreAdmitted, IsSplitAt, AreExpanded}
use Rattle.reduce_up.specs.Waves.{Entry, requests_of}
use Rattle.req_table.specs.declared.packed_child.PackedChild.{PackedChild}
use Rattle.req_table.specs.Places.{row, IsAtPlace}

-- tables that have grown: what was at a place is still there
abbrev pub Grow : List (List Key) → List (List Key) → Type 0
Grow old new = (w q : ℕ) (k : Key) → IsAtPlace old w q k → IsAtPlace new w q k

-- the first i requests of level v are expanded, from the tables `start`; the pairs are their children
pub record IsRowExpanded (s : Nodes) (entries : List Entry) (start : List (List Key)) (v i : ℕ) (tables : List (List Key))
    (pairs : List (PackedChild × PackedChild)) : Type 0 where
  pub admitted : AreAdmitted s entries tables
  pub grown : Grow start tables
  pub above : (w : ℕ) → w ≤ v → row tables w ≡ row start w
  pub count : length pairs ≡ i
  pub split : (q : ℕ) (k : Key) (d : PackedChild × PackedChild) → IsAtPlace tables v q k → slice_get pairs q ≡ Some d → IsSplitAt s tables k d

-- between two counts modulo 2^64 exactly the requests of the levels before v were split, each once
pub record HaveSplit (s : Nodes) (entries : List Entry) (tables : List (List Key)) (v : ℕ) (before after : ℕ) : Type 0 where
  pub requests : List Key
  pub once : IsOnce requests
  pub reached : (k : Key) → IsIn requests k → IsReached (wave_of s 1) (requests_of entries) k
  pub above : (k : Key) → IsIn requests k → level_of s k < v
  pub whole : (w q : ℕ) (k : Key) → w < v → IsAtPlace tables w q k → IsIn requests k
  pub count : after % 2 ^ 64 ≡ (before + length requests) % 2 ^ 64

-- the tables from level v on wait, and those before it are empty
pub record AreWaiting (tables : List (List Key)) (v : ℕ) (waiting : List (List Key)) : Type 0 where
  pub levels : length waiting ≡ length tables
  pub emptied : (w : ℕ) → w < v → row waiting w ≡ []
  pub same : (w : ℕ) → v ≤ w → row waiting w ≡ row tables w

-- all levels before v are expanded, from the roots on, and each of their requests was split once, as the counts say;
-- only the requests that wait at deeper levels are still there
pub record IsExpandedTo (s : Nodes) (entries : List Entry) (v : ℕ) (waiting : List (List Key)) (rows : List (List (PackedChild × PackedChild)))
    (roots : List PackedChild) (before after : ℕ) : Type 0 where
  pub tables : List (List Key)
  pub bound : v ≤ s.levels
  pub expanded : AreExpanded s entries roots v tables rows
  pub once : (w : ℕ) → w < v → IsOnce (row tables w)
  pub split : HaveSplit s entries tables v before after
  pub waits : AreWaiting tables v waiting

-- all levels before v are expanded, and at most n requests were split
abbrev pub IsExpandedWithin : ℕ → Nodes → List Entry → ℕ → List (List Key) → List (List (PackedChild × PackedChild)) → List PackedChild → ℕ → ℕ → Type 0
IsExpandedWithin n s entries v waiting rows roots before after =
    (d : IsExpandedTo s entries v waiting rows roots before after) × (length d.split.requests ≤ n)
