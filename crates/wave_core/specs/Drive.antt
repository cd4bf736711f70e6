-- Which events a driven core does: at each step the allowed one with a chosen number, in one order of all events.
use Rattle.std.specs.Prelude.{◌≡◌, ℕ, zero, suc, ◌%◌, List, [], ◌∷◌, ◌++◌, ◌⊎◌}
use Rattle.req_table.specs.Wave.{Wave}
use Rattle.wave_core.specs.declared.Event.{Event}
use Rattle.wave_core.specs.declared.Event.TheVariants.{Send, End, Take, Expand, Advance, Keep}
use Rattle.wave_core.specs.Step.{State, IsStep, IsAllowed, IsFinished}

abbrev pub sends : ℕ → ℕ → List Event
sends by zero = []
sends by (suc n) = sends by n ++ Send by n ∷ []

abbrev pub ends_of : ℕ → ℕ → List Event
ends_of by zero = []
ends_of by (suc n) = ends_of by n ++ End by n ∷ []

-- the events of one worker of n, and of the first m workers
abbrev pub events_of : ℕ → ℕ → List Event
events_of n by = sends by n ++ ends_of by n ++ Take by ∷ Expand by ∷ Advance by ∷ Keep by ∷ []

abbrev pub events_below : ℕ → ℕ → List Event
events_below n zero = []
events_below n (suc m) = events_below n m ++ events_of n m

abbrev pub all_events : Wave → List Event
all_events w = events_below w.workers w.workers

-- m of the events are allowed
abbrev pub CountsAllowed : Wave → State → List Event → ℕ → Type 0
CountsAllowed w c [] m = m ≡ 0
CountsAllowed w c (x ∷ xs) m = (¬ IsAllowed w c x) × CountsAllowed w c xs m ⊎ IsAllowed w c x × ((k : ℕ) × (m ≡ suc k) × CountsAllowed w c xs k)

-- e is the allowed event with the number n, from 0
abbrev pub IsNthAllowed : Wave → State → List Event → ℕ → Event → Type 0
IsNthAllowed w c [] n e = ⊥
IsNthAllowed w c (x ∷ xs) n e = (¬ IsAllowed w c x) × IsNthAllowed w c xs n e ⊎ IsAllowed w c x
    × ((n ≡ 0) × (e ≡ x) ⊎ ((k : ℕ) × (n ≡ suc k) × IsNthAllowed w c xs k e))

-- By these choices c leads to d, which is finished: as long as c is not finished, each choice does the event whose
-- number is the choice modulo the number of allowed events; after the last choice it is always the first.
pub data IsDriven (w : Wave) : State → List ℕ → State → Type 0 where
  stop : {c : State} {choices : List ℕ} → IsFinished w c → IsDriven w c choices c
  by_choice : {c b d : State} {choice : ℕ} {choices : List ℕ} (m : ℕ) (e : Event) → ¬ IsFinished w c → CountsAllowed w c (all_events w) (suc m)
      → IsNthAllowed w c (all_events w) (choice % suc m) e
      → IsStep w c e b → IsDriven w b choices d → IsDriven w c (choice ∷ choices) d
  first : {c b d : State} (e : Event) → ¬ IsFinished w c → IsNthAllowed w c (all_events w) 0 e → IsStep w c e b → IsDriven w b [] d
      → IsDriven w c [] d

-- By the allowed event with a choice's number c leads to d.
pub record IsChosenStep (w : Wave) (c : State) (choice : ℕ) (d : State) : Type 0 where
  pub others : ℕ
  pub event : Event
  pub count : CountsAllowed w c (all_events w) (suc others)
  pub nth_allowed : IsNthAllowed w c (all_events w) (choice % suc others) event
  pub step : IsStep w c event d
