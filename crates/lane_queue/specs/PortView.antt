-- What contracts see of lanes and of a port.
use Rattle.std.specs.Prelude.{◌≡◌, ◌≢◌, ℕ, ◌+◌, ◌-◌, ◌<◌, ◌==◌, cond, List, [], ◌∷◌, ◌++◌, map, length, Option, Some, slice_index_or}
use Rattle.std.specs.Prelude.{slice_set}
use Rattle.crossbeam_queue.specs.SegTies.{SegId}
use Rattle.std.specs.declared.alloc.Global.{Global}
use Rattle.req_table.specs.declared.Item.{Item}
use Rattle.req_table.specs.declared.Item.TheVariants.{Ask, End}
use Rattle.req_table.specs.declared.Sizes.{Sizes}
use Rattle.req_table.specs.Wave.{Scope}
use Rattle.req_table.specs.Sizes.{scope_of}
use Rattle.req_table.specs.Lanes.{sent_by, ends, IsFair, IsClosed}
use Rattle.lane_queue.specs.declared.load.Load.{Load}
use Rattle.lane_queue.specs.Loads.{load_from, items_in, IsNonEmpty}
use Rattle.lane_queue.specs.Lists.{IsPrefix}

-- The queues by worker, and the sizes of the lanes' store.
pub record LanesView : Type 0 where
  pub lanes : List (SegId Global)
  pub sizes : Sizes

-- The port's number, its lanes (None once it was joined), the sizes of their store, what it has put on each lane and in
-- how many loads, what it has taken from its own lane, what it has sent to itself, and what it has taken. The last two
-- include the requests that it has kept, which went through no lane.
pub record PortView : Type 0 where
  pub number : ℕ
  pub lanes : List (Option (SegId Global))
  pub sizes : Sizes
  pub passed : List (List Item)
  pub put : List ℕ
  pub popped : List Item
  pub own : List Item
  pub taken : List Item

-- What the port has put on the lane of this worker, and in how many loads.
abbrev pub passed_to : PortView → ℕ → List Item
passed_to p to = slice_index_or p.passed to []

abbrev pub put_to : PortView → ℕ → ℕ
put_to p to = slice_index_or p.put to 0

-- What the port has sent to this worker: to another one through its lane, to itself also what it has kept.
abbrev pub sent_to : PortView → ℕ → List Item
sent_to p to = cond (to == p.number) p.own (passed_to p to)

-- The port was made with these lanes, and was not joined yet.
abbrev pub IsPortOf : LanesView → PortView → Type 0
IsPortOf l p = (p.lanes ≡ map (λ q. Some q) l.lanes) × (p.sizes ≡ l.sizes)

-- The scope by which lists on these lanes are fair.
abbrev pub lanes_scope : LanesView → Scope
lanes_scope l = scope_of (length l.lanes) l.sizes

-- The scope by which lists on a port's lanes are fair.
abbrev pub port_scope : PortView → Scope
port_scope p = scope_of (length p.lanes) p.sizes

-- The load is the next of a fair list of its sender. If the port is the sender, it is the list that it has sent to
-- itself.
abbrev pub IsTaken : PortView → Load → Type 0
IsTaken p x =
    (sent : List Item) × IsNonEmpty x × (load_from x < length p.lanes) × IsFair (port_scope p) sent
    × IsPrefix (sent_by (load_from x) (p.taken ++ items_in x)) sent
    × (load_from x ≡ p.number → sent ≡ sent_to p p.number)

-- A worker that has taken these items may send the item after e Ends: for an Ask the level before e has to be closed.
-- So no child is sent before the level of its request is closed.
abbrev pub MayBeSent : Scope → List Item → ℕ → Item → Type 0
MayBeSent w taken e (Ask from level key) = 0 < e → IsClosed w (e - 1) taken
MayBeSent w taken e (End from level) = Unit {0}

-- The item is no Ask of a closed level.
abbrev pub IsOpen : Scope → List Item → Item → Type 0
IsOpen w taken (Ask from level key) = ¬ IsClosed w level taken
IsOpen w taken (End from level) = Unit {0}

-- ---- how each call changes a port
-- The port has put a load on the lane of this worker.
abbrev pub has_put : PortView → ℕ → Load → PortView
has_put p to x = record p {
  passed = slice_set p.passed to (passed_to p to ++ items_in x);
  put = slice_set p.put to (put_to p to + 1);
  own = cond (to == p.number) (p.own ++ items_in x) p.own;
}

-- The port has taken a load from its own lane.
abbrev pub has_taken : PortView → Load → PortView
has_taken p x = record p { popped = p.popped ++ items_in x; taken = p.taken ++ items_in x }

-- The port has kept a request.
abbrev pub has_kept : PortView → Item → PortView
has_kept p x = record p { own = p.own ++ x ∷ []; taken = p.taken ++ x ∷ [] }

-- ---- what is kept, and what goes through the lane
-- What a port has sent to itself and taken is what went through its own lane and the requests that it has kept. These
-- are no Ends and no other port's, and each was kept when nothing of the port's own was under way, that is, when the
-- port had taken all that it had put on its own lane.
pub record AgreesWithOwnLane (p : PortView) : Type 0 where
  pub fair : IsFair (port_scope p) p.own
  pub ended : ends p.own ≡ ends (passed_to p p.number)
  pub others : (o : ℕ) → o ≢ p.number → sent_by o p.taken ≡ sent_by o p.popped
  pub under_way : List Item
  pub all : p.own ≡ sent_by p.number p.taken ++ under_way
  pub through : passed_to p p.number ≡ sent_by p.number p.popped ++ under_way
