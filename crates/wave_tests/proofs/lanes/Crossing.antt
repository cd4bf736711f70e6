-- What the closures of the tests' threads capture may be moved to other threads.
use mathlib.Core.List.{[], ◌∷◌}
use base.Fml.{Lft}
use mir.Syntax.{Lifetime}
use denote.RattleType.{RattleType}
use denote.Ref.{ShrRef}
use denote.Struct.Tuple.{TupleAt}
use denote.Param.Send.{IsSend, IsSync, sendable}
use Rattle.dd_store.proofs.store.Store.TheSendSync as store
use Rattle.req_table.proofs.Key.TheSendSync as key
use Rattle.lane_queue.proofs.Sent.{port_send, lanes_sync}
use Rattle.std.proofs.Crossing.{crosses, frees, send as heap_send}
use Rattle.std.specs.contracts.alloc.Global as Heap
use Rattle.std.specs.contracts.sync.atomic.AtomicBool as AtomicBool
use Rattle.dd_store.specs.contracts.store.Store as Store
use Rattle.req_table.specs.contracts.Key as Key
use Rattle.lane_queue.specs.contracts.lanes.Lanes as Lanes
use Rattle.lane_queue.specs.contracts.port.Port as Port

store_sync : IsSync Store.the_row
store_sync = store.the_sync

key_send : IsSend Key.the_row
key_send = key.the_send

-- the thread that sends
pub sender_send : (ν : _) (ℓ ℓ' ℓ'' : Lifetime) (κ κ' κ'' : Lft) (R : RattleType) → IsSync R
    → IsSend (TupleAt ν (ShrRef ℓ κ R ∷ Heap.the_row ∷ ShrRef ℓ' κ' Store.the_row ∷ ShrRef ℓ'' κ'' Lanes.the_row ∷ Port.the_row ∷ Key.the_row ∷ Key.the_row ∷ []))
sender_send ν ℓ ℓ' ℓ'' κ κ' κ'' R r = search (sendable, crosses, lanes_sync, port_send, store_sync, key_send, heap_send) depth 30

flag_sync : IsSync AtomicBool.the_row
flag_sync = search (sendable, crosses, frees) depth 30

-- the thread of a worker that another one stops
pub worker_send : (ν : _) (ℓ ℓ' ℓ'' ℓ'3 ℓ'4 : Lifetime) (κ κ' κ'' κ'3 κ'4 : Lft) (R : RattleType) → IsSync R
    → IsSend (TupleAt ν (ShrRef ℓ κ R ∷ Heap.the_row ∷ ShrRef ℓ' κ' Lanes.the_row ∷ Port.the_row ∷ ShrRef ℓ'' κ'' Store.the_row ∷ ShrRef ℓ'3 κ'3 AtomicBool.the_row ∷ ShrRef ℓ'4 κ'4 AtomicBool.the_row ∷ []))
worker_send ν ℓ ℓ' ℓ'' ℓ'3 ℓ'4 κ κ' κ'' κ'3 κ'4 R r = search (sendable, crosses, lanes_sync, port_send, store_sync, flag_sync, heap_send) depth 30
