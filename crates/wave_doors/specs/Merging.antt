-- The parts of a wave, whose records are made again from their keys.
use Rattle.std.specs.Prelude.{◌≡◌, ℕ, ◌<◌, [], length, slice_index_or, map, All}
use Rattle.dd_store.specs.Nodes.{Nodes}
use Rattle.req_table.specs.Keys.{IsKey}
use Rattle.req_table.specs.Settled.{key_of}
use Rattle.expand_work.specs.WavePorts.{row_of}
use Rattle.expand_work.specs.WaveParts.{PartsView}
use Rattle.expand_work.specs.OwnerRows.{records_of}

-- Each worker has a row for each level, whose keys are keys of the store, and its records are those of its keys.
pub record MayMerge (S : Nodes) (workers : ℕ) (p : PartsView) : Type 0 where
  pub many : length p.rows ≡ workers
  pub levels : (k : ℕ) → k < workers → length (slice_index_or p.rows k []) ≡ S.levels
  pub keys : (k v : ℕ) → k < workers → v < S.levels → All (IsKey S) (map key_of (row_of p.rows k v))
  pub records : (k v : ℕ) → k < workers → v < S.levels → records_of S (map key_of (row_of p.rows k v)) ≡ row_of p.rows k v
