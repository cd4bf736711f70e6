-- A worker's port at its beginning, and its part at its end.
use Rattle.std.specs.Prelude.{◌≡◌, ℕ, ◌<◌, List, [], length, map, All}
use Rattle.dd_store.specs.Nodes.{Nodes}
use Rattle.req_table.specs.declared.Key.{Key}
use Rattle.req_table.specs.Keys.{IsKey, level_of, wave_of}
use Rattle.req_table.specs.Tables.{row_at}
use Rattle.lane_queue.specs.PortView.{LanesView, PortView, sent_to, put_to, IsPortOf}
use Rattle.expand_work.specs.declared.part.Part.{Part}
use Rattle.expand_work.specs.Parts.{IsPart, loads_of}
use Rattle.expand_work.specs.PlacesBySender.{ArePlaces}
use Rattle.expand_work.specs.Work.{at}
use Rattle.expand_work.specs.OwnerRows.{row_by_owner, recorded}

-- The port has sent and taken nothing.
abbrev pub IsFresh : PortView → Type 0
IsFresh p = ((k : ℕ) → sent_to p k ≡ []) × (p.taken ≡ []) × ((k : ℕ) → put_to p k ≡ 0)

-- The part of worker s in the wave over a store: the port is the worker's and of these lanes, the memory has by level
-- the keys of its requests and their children, and what the worker has sent, taken and split is its part of the wave.
-- It has put no more loads on any lane than that needs.
pub record IsWorked (l : LanesView) (S : Nodes) (roots : List Key) (s : ℕ) (p : Part) : Type 0 where
  pub ports : IsPortOf l p.port
  pub number : p.port.number ≡ s
  pub lists : length p.port.put ≡ length l.lanes
  pub levels : length p.space.tables ≡ S.levels
  pub keys : (u : ℕ) → u < S.levels → All (IsKey S) (at p.space.tables u)
  pub by_owner : p.space.rows ≡ map (row_by_owner (length l.lanes)) (recorded S p.space.tables)
  pub part : IsPart (wave_of S (length l.lanes)) roots s (sent_to p.port) p.port.taken (row_at (recorded S p.space.tables))
  pub noted : ArePlaces (level_of S) (length l.lanes) p.port.taken (at p.space.tables) p.space.noted
  pub put : (k : ℕ) → k < length l.lanes → put_to p.port k ≡ loads_of S.levels s k (sent_to p.port k)
