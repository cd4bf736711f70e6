-- What a worker has between two levels, and between the steps of one level.
use Rattle.std.specs.Prelude.{◌≡◌, ℕ, ◌<◌, List, [], ◌∷◌, length, map, replicate}
use Rattle.dd_store.specs.Nodes.{Nodes, IsSound}
use Rattle.req_table.specs.declared.Key.{Key}
use Rattle.req_table.specs.Sizes.{sizes_of}
use Rattle.req_table.specs.declared.Item.TheVariants.{End}
use Rattle.req_table.specs.Lanes.{IsClosed}
use Rattle.lane_queue.specs.Loads.{ask_of}
use Rattle.lane_queue.specs.PortView.{LanesView, PortView, sent_to, put_to, IsPortOf, lanes_scope}
use Rattle.expand_work.specs.declared.worker.Worker.{Worker}
use Rattle.expand_work.specs.Parts.{IsAt, loads_of}
use Rattle.expand_work.specs.Due.{IsLeft}
use Rattle.expand_work.specs.Work.{at, lanes_wave, keys_in, with_levels, put_items, put_loads, SentToAll, HasKept, IsReceived, StaysClosed}
use Rattle.expand_work.specs.PlacesBySender.{IsNoted}
use Rattle.expand_work.specs.OwnerRows.{row_by_owner, records_of, recorded}

-- What the worker has before level v.
pub record IsWorking (l : LanesView) (S : Nodes) (roots : List Key) (v : ℕ) (w : Worker) : Type 0 where
  pub port : IsPortOf l w.port
  pub within : w.port.number < length l.lanes
  pub sizes : l.sizes ≡ sizes_of S
  pub sound : IsSound S
  pub received : IsReceived (lanes_scope l) w.port.taken w.senders.clock w.tables
  pub noted : IsNoted (length l.lanes) w.port.taken w.tables w.senders.noted
  pub many_rows : length w.rows ≡ S.levels
  pub by_owner : (u : ℕ) → u < v → at w.rows u ≡ row_by_owner (length l.lanes) (records_of S (at w.tables u))
  pub many_due : length w.due ≡ length l.lanes
  pub levels_match : (k : ℕ) → k < length l.lanes → at w.due k ≡ with_levels S (keys_in (at w.due k))
  pub level : IsAt (lanes_wave S (length l.lanes)) roots w.port.number v (sent_to w.port) w.port.taken (λ k. keys_in (at w.due k))
      (at w.tables) (at (recorded S w.tables))
  pub put : (k : ℕ) → k < length l.lanes → put_to w.port k ≡ loads_of v w.port.number k (sent_to w.port k)

-- From w to u all that was due at level v was sent to the others or kept by the worker itself, and every lane has got
-- an End of the level.
pub record HasSentLevel (l : LanesView) (v : ℕ) (w u : Worker) : Type 0 where
  pub sent : PortView
  pub left : List (List (ℕ × Key))
  pub kept : PortView
  pub is_sent : SentToAll w.port sent (length l.lanes) (put_items w.port.number (at w.due)) (put_loads w.port.number (at w.due))
  pub is_left : IsLeft w.port.number w.due left
  pub is_kept : HasKept sent kept (map (ask_of sent.number) (at left sent.number))
  pub stays : StaysClosed (lanes_scope l) sent.taken kept.taken w.tables u.tables
  pub is_ended : SentToAll kept u.port (length l.lanes) (λ k. End kept.number v ∷ []) (λ k. 1)
  pub port : IsPortOf l u.port
  pub received : IsReceived (lanes_scope l) u.port.taken u.senders.clock u.tables
  pub noted : IsNoted (length l.lanes) u.port.taken u.tables u.senders.noted
  pub rows : u.rows ≡ w.rows
  pub due : u.due ≡ replicate (length l.lanes) []

-- The worker u has taken until level v was closed, and has not expanded it yet.
pub record IsClosing (l : LanesView) (S : Nodes) (roots : List Key) (v : ℕ) (u : Worker) : Type 0 where
  pub before : Worker
  pub after_sending : Worker
  pub working : IsWorking l S roots v before
  pub has_sent_level : HasSentLevel l v before after_sending
  pub same : u.port ≡ record after_sending.port { popped = u.port.popped; taken = u.port.taken }
  pub received : IsReceived (lanes_scope l) u.port.taken u.senders.clock u.tables
  pub stays : StaysClosed (lanes_scope l) after_sending.port.taken u.port.taken after_sending.tables u.tables
  pub noted : IsNoted (length l.lanes) u.port.taken u.tables u.senders.noted
  pub closed : IsClosed (lanes_scope l) v u.port.taken
  pub rows : u.rows ≡ before.rows
  pub due : u.due ≡ replicate (length l.lanes) []
