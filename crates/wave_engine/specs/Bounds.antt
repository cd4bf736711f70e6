-- The number of requests of a wave.
use Rattle.std.specs.Prelude.{ℕ, ◌<◌, ◌≤◌, List, length, Contains, Option, None, Some}
use Rattle.slot_table.specs.Lists.{IsOnce}
use Rattle.dd_store.specs.Nodes.{Nodes}
use Rattle.req_table.specs.declared.Key.{Key}
use Rattle.req_table.specs.Keys.{wave_of}
use Rattle.req_table.specs.Reached.{IsReached}
use Rattle.reduce_up.specs.Waves.{Entry, requests_of}

-- each of these requests is reached from the entries
abbrev pub AreReached : Nodes → List Entry → List Key → Type 0
AreReached s entries requests = (k : Key) → Contains requests k → IsReached (wave_of s 1) (requests_of entries) k

-- more than n requests are reached from the entries: a list of distinct ones is longer
pub record AreMoreThan (n : ℕ) (s : Nodes) (entries : List Entry) : Type 0 where
  pub requests : List Key
  pub once : IsOnce requests
  pub reached : AreReached s entries requests
  pub more : n < length requests

-- at most n requests are reached from the entries: no list of distinct ones is longer
abbrev pub AreAtMost : ℕ → Nodes → List Entry → Type 0
AreAtMost n s entries = (requests : List Key) → IsOnce requests → AreReached s entries requests → length requests ≤ n

-- more requests are reached from the entries than the bound allows, if there is one
abbrev pub ArePast : Option ℕ → Nodes → List Entry → Type 0
ArePast None s entries = ⊥
ArePast (Some n) s entries = AreMoreThan n s entries
