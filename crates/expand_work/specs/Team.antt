-- The ports of a wave before the workers begin, and the parts after they have ended.
use Rattle.std.specs.Prelude.{◌≡◌, ℕ, ◌<◌, List, [], ◌∷◌, ◌++◌, length, slice_index_or, Ok}
use Rattle.std.specs.declared.vec.Vec.{Vec}
use Rattle.std.specs.declared.alloc.Global.{Global}
use Rattle.std.specs.List.{AllZip}
use Rattle.dd_store.specs.Nodes.{Nodes}
use Rattle.req_table.specs.declared.Key.{Key}
use Rattle.lane_queue.specs.PortView.{LanesView, PortView, IsPortOf}
use Rattle.std.specs.declared.thread.PromisedHandle.{PromisedHandle}
use Rattle.std.specs.declared.result.Result.{Result}
use Rattle.expand_work.specs.declared.part.Part.{Part}
use Rattle.expand_work.specs.declared.fault.WorkFault.{WorkFault}
use Rattle.expand_work.specs.declared.fault.WaveFault.{WaveFault}
use Rattle.expand_work.specs.declared.team.PartPromise.{PartPromise}
use Rattle.expand_work.specs.WorkerResult.{IsFresh, IsWorked}

-- One new port for each lane, by number.
pub record AreNew (l : LanesView) (ports : List PortView) : Type 0 where
  pub long : length ports ≡ length l.lanes
  pub made : (i : ℕ) (d : PortView) → i < length l.lanes → IsPortOf l (slice_index_or ports i d)
  pub fresh : (i : ℕ) (d : PortView) → i < length l.lanes → IsFresh (slice_index_or ports i d)
  pub numbered : (i : ℕ) (d : PortView) → i < length l.lanes → (slice_index_or ports i d).number ≡ i

-- One part for each lane, by number.
pub record AreWorked (l : LanesView) (s : Nodes) (roots : List Key) (parts : List Part) : Type 0 where
  pub long : length parts ≡ length l.lanes
  pub each : (i : ℕ) (d : Part) → i < length l.lanes → IsWorked l s roots i (slice_index_or parts i d)

-- The thread of a handle has promised this part.
abbrev pub IsPromised : PromisedHandle (Result Part WorkFault) PartPromise → Part → Type 0
IsPromised h p = IsWorked h.promise.lanes.now h.promise.store.now h.promise.roots.now h.promise.number p

-- The handle is that of the thread that works with this port, on these lanes, store and roots.
pub record WorksFor (l : LanesView) (s : Nodes) (roots : List Key) (h : PromisedHandle (Result Part WorkFault) PartPromise)
    (p : PortView) : Type 0 where
  pub lanes : h.promise.lanes.now ≡ l
  pub store : h.promise.store.now ≡ s
  pub keys : h.promise.roots.now ≡ roots
  pub number : h.promise.number ≡ p.number

-- The threads work with the first of these ports, one thread for each port.
pub record AreStarted (l : LanesView) (s : Nodes) (roots : List Key) (children : List (PromisedHandle (Result Part WorkFault) PartPromise))
    (ports : List PortView) : Type 0 where
  pub first : List PortView
  pub rest : List PortView
  pub all : first ++ rest ≡ ports
  pub works : AllZip (WorksFor l s roots) children first

-- The parts of the others and, after them, the last worker's, if all workers have ended with one.
pub record AreJoined (others : Result (Vec Part Global) WaveFault) (last : Result Part WorkFault) (parts : List Part) : Type 0 where
  pub before : Vec Part Global
  pub part : Part
  pub others_are : others ≡ Ok before
  pub last_is : last ≡ Ok part
  pub all : parts ≡ before.items ++ part ∷ []
