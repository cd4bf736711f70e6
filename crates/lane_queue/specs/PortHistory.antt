-- What a port has sent to itself and taken, from its history.
use Rattle.std.specs.Prelude.{ℕ, ◌+◌, List, [], ◌∷◌, ◌++◌, Option, Some, None}
use Rattle.std.specs.declared.snapshot.Snapshot.{Snapshot}
use Rattle.req_table.specs.declared.Item.{Item}
use Rattle.lane_queue.specs.declared.port_history.PortEvent.{PortEvent}
use Rattle.lane_queue.specs.declared.port_history.PortEvent.TheVariants.{Nothing, Sent, Taken, Kept}
use Rattle.lane_queue.specs.Loads.{items_in}

-- The number of steps, what was sent, and what was taken.
pub record HistoryView : Type 0 where
  pub steps : ℕ
  pub sent : List Item
  pub taken : List Item

-- What a step sent, and what it took.
abbrev pub sent_in : PortEvent → List Item
sent_in Nothing = []
sent_in (Sent x) = items_in x.value
sent_in (Taken x) = []
sent_in (Kept x) = x.value ∷ []

abbrev pub taken_in : PortEvent → List Item
taken_in Nothing = []
taken_in (Sent x) = []
taken_in (Taken x) = items_in x.value
taken_in (Kept x) = x.value ∷ []

-- The history before the last step, and then this step.
abbrev pub history : Option (Snapshot HistoryView) → PortEvent → HistoryView
history None x = record { steps = 0; sent = []; taken = [] }
history (Some s) x = record {
  steps = s.value.steps + 1;
  sent = s.value.sent ++ sent_in x;
  taken = s.value.taken ++ taken_in x;
}
