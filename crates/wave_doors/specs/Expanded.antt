-- What contracts see of an expanded wave.
use Rattle.std.specs.Prelude.{◌≡◌, ℕ, ◌<◌, List}
use Rattle.req_table.specs.declared.Key.{Key}
use Rattle.req_table.specs.declared.Record.{Record}
use Rattle.req_table.specs.Wave.{Wave}
use Rattle.req_table.specs.Settled.{IsSettled, level_of_rows}
use Rattle.req_table.specs.Tables.{row_at}
use Rattle.lane_queue.specs.PortView.{PortView}
use Rattle.lane_queue.specs.Joining.{sent_from, taken_by}

-- The records by level, and the workers' ports by number.
pub record ExpandedView : Type 0 where
  pub records : List (List Record)
  pub ports : List PortView

-- What the ports have sent and taken is a settled wave with some rows of the workers, and the records of each level are
-- those of these rows, worker by worker.
pub record IsSettledFor (w : Wave) (roots : List Key) (e : ExpandedView) : Type 0 where
  pub rows : ℕ → ℕ → List Record
  pub settled : IsSettled w roots (λ s k. sent_from e.ports k s) (taken_by e.ports) rows
  pub merged : (v : ℕ) → v < w.levels → row_at e.records v ≡ level_of_rows w.workers rows v
