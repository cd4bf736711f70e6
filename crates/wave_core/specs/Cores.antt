-- What contracts see of a core: its store, its roots, and the state of its workers.
use Rattle.std.specs.Prelude.{◌≡◌, ℕ, ◌+◌, List, ◌∷◌, ◌++◌, length}
use Rattle.dd_store.specs.Nodes.{Nodes}
use Rattle.req_table.specs.declared.Key.{Key}
use Rattle.req_table.specs.declared.Item.{Item}
use Rattle.req_table.specs.declared.Item.TheVariants.{Ask}
use Rattle.req_table.specs.Lanes.{IsClosed}
use Rattle.req_table.specs.Wave.{Wave, IsWave}
use Rattle.req_table.specs.Keys.{wave_of}
use Rattle.req_table.specs.Settled.{IsSettled}
use Rattle.wave_core.specs.declared.Event.{Event}
use Rattle.wave_core.specs.declared.Event.TheVariants.{Take, Keep}
use Rattle.wave_core.specs.declared.CoreFault.{CoreFault}
use Rattle.wave_core.specs.declared.CoreFault.TheVariants.{NotAllowed, OutOfMemory}
use Rattle.wave_core.specs.Step.{State, IsStart, IsStep, IsRun}
use Rattle.wave_core.specs.Sound.{IsSoundState}
use Rattle.wave_core.specs.MachineView.{MachineView, state_of, done_of}

pub record CoreView : Type 0 where
  pub store : Nodes
  pub roots : List Key
  pub machine : MachineView

abbrev pub core_wave : CoreView → Wave
core_wave v = wave_of v.store v.machine.workers

abbrev pub core_state : CoreView → State
core_state v = state_of v.machine

-- the invariant of every core
pub record IsSoundCore (v : CoreView) : Type 0 where
  pub levels : v.machine.levels ≡ v.store.levels
  pub laws : IsWave (core_wave v)
  pub sound : IsSoundState (core_wave v) v.roots (core_state v)

-- a core before any event
pub record IsNew (S : Nodes) (workers' : ℕ) (roots' : List Key) (v : CoreView) : Type 0 where
  pub store : v.store ≡ S
  pub roots : v.roots ≡ roots'
  pub workers : v.machine.workers ≡ workers'
  pub start : IsStart (core_wave v) v.roots (core_state v)

-- two cores with the same store, roots and workers
pub record IsSameWave (old new : CoreView) : Type 0 where
  pub store : new.store ≡ old.store
  pub roots : new.roots ≡ old.roots
  pub workers : new.machine.workers ≡ old.machine.workers

abbrev pub IsSettledCore : CoreView → Type 0
IsSettledCore v = IsSettled (core_wave v) v.roots (core_state v).sent (core_state v).taken (core_state v).rows

-- The number of events that were done.
abbrev pub events_done : CoreView → ℕ
events_done v = done_of v.machine

-- some state follows by the event
abbrev pub HasStep : CoreView → Event → Type 0
HasStep v e = (d : State) × IsStep (core_wave v) (core_state v) e d

-- Why an event was refused: no state follows by it, and `place` is the number of events that were done; or a state
-- follows, and memory was refused.
abbrev pub IsRefusal : CoreView → Event → CoreFault → Type 0
IsRefusal v e (NotAllowed place) = (place ≡ events_done v) × ¬ HasStep v e
IsRefusal v e OutOfMemory = HasStep v e

-- an Ask that the event takes or keeps is of a level that is not closed
abbrev pub TakesOpen : CoreView → Event → Type 0
TakesOpen v (Take by) = (s l : ℕ) (x : Key) (rest : List Item) → (core_state v).waiting by ≡ Ask s l x ∷ rest
    → ¬ IsClosed (core_wave v).scope l ((core_state v).taken by)
TakesOpen v (Keep by) = (x : Key) (rest : List Key) → (core_state v).due by by ≡ x ∷ rest
    → ¬ IsClosed (core_wave v).scope ((core_wave v).level x) ((core_state v).taken by)
TakesOpen v e = Unit {0}

-- some events, in turn, lead from one core to another
abbrev pub Reaches : CoreView → CoreView → Type 0
Reaches v u = (es : List Event) × IsRun (core_wave v) (core_state v) es (core_state u)

-- The events before one were done in turn, and that one was refused.
pub record IsStopped (old : CoreView) (events : List Event) (new : CoreView) (fault : CoreFault) : Type 0 where
  pub before : List Event
  pub event : Event
  pub after : List Event
  pub split : events ≡ before ++ event ∷ after
  pub run : IsRun (core_wave old) (core_state old) before (core_state new)
  pub counts : events_done new ≡ events_done old + length before
  pub refused : IsRefusal new event fault
