-- Attempts that are made side by side, before their results are looked at in the sequence of the orders.
use Rattle.std.specs.Prelude.{◌≡◌, ◌<◌, ℕ, Bool, true, false, List, Option, Some, None, length, slice_index_or, ⊤}
use Rattle.std.specs.Borrow.{Bor}
use Rattle.expand_work.specs.Bounds.{WaveBound}
use Rattle.expand_work.specs.declared.fault.WaveFault.TheVariants.{Full, TooManyRequests}
use Rattle.net_order.specs.Order.{NamingModel}
use Rattle.compare_built.specs.declared.fault.CheckFault.{CheckFault}
use Rattle.compare_built.specs.declared.fault.CheckFault.TheVariants.{Wave}
use Rattle.compare_built.specs.declared.task.Task.{Task}
use Rattle.order_search.specs.declared.attempts.Ended.{Ended}
use Rattle.order_search.specs.declared.attempts.Ended.TheVariants.{Decided, GivenUp}
use Rattle.order_search.specs.declared.trials.Trial.{Trial}
use Rattle.order_search.specs.Trials.{IsEnded}

-- the fault of an attempt that is given up, for its nodes or for the requests of a wave
abbrev pub end_fault : (full : Bool) → CheckFault
end_fault true = Wave Full
end_fault false = Wave TooManyRequests

-- the result of an attempt that ends with a fault: it was given up with it, or there is none
abbrev pub IsRunEnd : CheckFault → Option Ended → Type 0
IsRunEnd fault None = ⊤
IsRunEnd fault (Some (Decided verdicts)) = ⊥
IsRunEnd fault (Some (GivenUp full)) = fault ≡ end_fault full

-- the result of an attempt in the order of a trial, or none
abbrev pub IsRunOf : {H : Type 0} → Task H → Option (Bor NamingModel) → (budget : ℕ) → (bound : WaveBound) → Trial → Option Ended → Type 0
IsRunOf task declared budget bound t None = ⊤
IsRunOf task declared budget bound t (Some ended) = IsEnded task declared budget bound t ended

-- the same for the trial at this place
abbrev pub IsRunAt : {H : Type 0} → Task H → Option (Bor NamingModel) → (budget : ℕ) → (bound : WaveBound) → List Trial → (place : ℕ) → Option Ended → Type 0
IsRunAt task declared budget bound trials place run = (t : Trial) → place < length trials → IsRunOf task declared budget bound (slice_index_or trials place t) run

-- By place, the results of the attempts in the orders of these trials. There is none at a place past the end of the
-- list.
abbrev pub AreRuns : {H : Type 0} → Task H → Option (Bor NamingModel) → (budget : ℕ) → (bound : WaveBound) → List Trial → List (Option Ended) → Type 0
AreRuns task declared budget bound trials runs = (place : ℕ) → IsRunAt task declared budget bound trials place (slice_index_or runs place None)
