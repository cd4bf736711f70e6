-- What the workers of a wave have at their end.
use Rattle.std.specs.Prelude.{◌≡◌, ℕ, ◌+◌, ◌*◌, ◌%◌, ◌^◌, ◌<◌, Contains, List, [], ◌∷◌, ◌++◌, length, map, slice_get, slice_index_or, Some}
use Rattle.std.specs.List.{AllZip, sum_by}
use Rattle.slot_table.specs.Lists.{IsOnce}
use Rattle.dd_store.specs.Nodes.{Nodes}
use Rattle.req_table.specs.declared.Key.{Key}
use Rattle.req_table.specs.declared.Record.{Record}
use Rattle.req_table.specs.Keys.{level_of, wave_of}
use Rattle.req_table.specs.Reached.{IsReached}
use Rattle.req_table.specs.Settled.{IsClosure, IsSettled, key_of, level_of_rows, asked_in_all}
use Rattle.req_table.specs.declared.Item.{Item}
use Rattle.req_table.specs.Wave.{Scope}
use Rattle.lane_queue.specs.PortView.{PortView, IsOpen}
use Rattle.lane_queue.specs.Joining.{sent_from, taken_by}
use Rattle.expand_work.specs.WavePorts.{AreByNumber, put_by, bundles_between, row_of}

-- Of each worker its records by level, and by sender the places of the requests that it was asked for.
pub record PartsView : Type 0 where
  pub rows : List (List (List Record))
  pub noted : List (List (List ℕ))

-- The places that worker k has noted of what s asked.
abbrev pub noted_of : List (List (List ℕ)) → ℕ → ℕ → List ℕ
noted_of noted k s = slice_index_or (slice_index_or noted k []) s []

-- The parts of all workers: together their records are exactly the requests that the roots ask for, each once, and
-- worker k has noted, in the order of asking, at which place of its row each request is that worker s asked of it.
pub record AreParts (S : Nodes) (workers : ℕ) (roots : List Key) (p : PartsView) : Type 0 where
  pub many_rows : length p.rows ≡ workers
  pub levels : (k : ℕ) → k < workers → length (slice_index_or p.rows k []) ≡ S.levels
  pub many_noted : length p.noted ≡ workers
  pub senders : (k : ℕ) → k < workers → length (slice_index_or p.noted k []) ≡ workers
  pub closure : IsClosure (wave_of S workers) roots (level_of_rows workers (row_of p.rows))
  pub places : (s k : ℕ) → s < workers → k < workers
      → AllZip (λ x n. slice_get (map key_of (row_of p.rows k (level_of S x))) n ≡ Some x)
      (asked_in_all (wave_of S workers) roots (row_of p.rows s) s k) (noted_of p.noted k s)

-- each of these items, taken in turn after those before, is no Ask of a level that is closed by then
abbrev pub AreOpen : Scope → List Item → List Item → Type 0
AreOpen w before [] = Unit {0}
AreOpen w before (i ∷ items) = IsOpen w before i × AreOpen w (before ++ i ∷ []) items

-- What the workers' ports have sent and taken, a port for each worker: it is a settled wave with the workers' records,
-- nothing was taken of a closed level, and the loads on all lanes are the bundles that have to be sent, and an End of
-- each level on each lane.
pub record AreSettled (S : Nodes) (workers : ℕ) (roots : List Key) (p : PartsView) (ports : List PortView) : Type 0 where
  pub numbered : AreByNumber workers ports
  pub settled : IsSettled (wave_of S workers) roots (λ s k. sent_from ports k s) (taken_by ports) (row_of p.rows)
  pub open_levels : (k : ℕ) → k < workers → AreOpen (wave_of S workers).scope [] (taken_by ports k)
  pub put : put_by ports ≡ bundles_between workers S.levels (sent_from ports) + workers * (workers * S.levels)

-- the number of records, of all workers and levels
abbrev pub count_in : List (List (List Record)) → ℕ
count_in rows = sum_by (λ levels. sum_by (λ row. length row) levels) rows

-- Between two counts modulo 2^64 exactly the requests that the roots ask for were expanded, each once.
pub record HaveExpanded (S : Nodes) (workers : ℕ) (roots : List Key) (before after : ℕ) : Type 0 where
  pub requests : List Key
  pub once : IsOnce requests
  pub reached : (x : Key) → Contains requests x → IsReached (wave_of S workers) roots x
  pub all : (x : Key) → IsReached (wave_of S workers) roots x → Contains requests x
  pub count : after % 2 ^ 64 ≡ (before + length requests) % 2 ^ 64
