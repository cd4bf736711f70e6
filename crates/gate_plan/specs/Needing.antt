-- Which nodes two netlists, and the condition if there is one, need in a store: what their building adds, what a store
-- without nodes has after it, and when it fails with Full.
use Rattle.std.specs.Prelude.{◌≡◌, ℕ, ◌<◌, ◌≤◌, ◌⊎◌, Bool, List, Option, length, map, Contains}
use Rattle.dd_store.specs.declared.reference.Ref.{Ref}
use Rattle.dd_store.specs.Functions.{Agree}
use Rattle.dd_store.specs.Graph.{bit}
use Rattle.dd_store.specs.Nodes.{Nodes, den, count_of}
use Rattle.dd_store.specs.View.{part, Has}
use Rattle.expand_work.specs.declared.fault.WaveFault.{WaveFault}
use Rattle.expand_work.specs.declared.fault.WaveFault.TheVariants as wave_faults
use Rattle.net_bench.specs.Circuit.{Circuit}
use Rattle.net_order.specs.Order.{NamingModel}
use Rattle.gate_plan.specs.Building.{PlannedNet, Levelled, levelled, levelled_of}
use Rattle.gate_plan.specs.Folds.{IsVariable, IsFoldValue}
use Rattle.gate_plan.specs.Need.{IsCounted, IsLean, IsComplete}

-- the functions whose diagrams netlists need, over n variables: the variables, and the value of each gate after each of
-- its operands
abbrev pub IsValueOf : ℕ → List Levelled → (List Bool → Bool) → Type 0
IsValueOf n netlists f = IsVariable n f ⊎ ((one : Levelled) × Contains netlists one × IsFoldValue one.netlist one.level n f)

-- the functions whose diagrams are needed for a pairing
abbrev pub IsNeededValue : Circuit → Circuit → Option Circuit → NamingModel → (List Bool → Bool) → Type 0
IsNeededValue a b given p f = IsValueOf (length p.names) (levelled a b given p) f

-- f is one of these functions with its first v bits fixed, and depends on bit v: a node of level v is needed for it
abbrev pub IsNeeded : Circuit → Circuit → Option Circuit → NamingModel → ℕ → (List Bool → Bool) → Type 0
IsNeeded a b given p v f = IsCounted (length p.names) (IsNeededValue a b given p) v f

-- each node of the store is needed, for its function or for the complement
abbrev pub IsLeanFor : Circuit → Circuit → Option Circuit → NamingModel → Nodes → Type 0
IsLeanFor a b given p S = IsLean (length p.names) (IsNeededValue a b given p) (part S) (Has S) (den S)

-- the store has each node that is needed
abbrev pub IsCompleteFor : Circuit → Circuit → Option Circuit → NamingModel → Nodes → Type 0
IsCompleteFor a b given p S = IsComplete (length p.names) (IsNeededValue a b given p) (part S) (Has S) (den S)

-- a store of the nodes that are needed, no others, and no more than its limit
pub record HasNeed (a b : Circuit) (given : Option Circuit) (p : NamingModel) (S : Nodes) : Type 0 where
  pub lean : IsLeanFor a b given p S
  pub complete : IsCompleteFor a b given p S
  pub within : count_of S ≤ S.limit

-- some function is counted at a level, and no reference of the store denotes it
abbrev pub LacksCounted : ℕ → ((List Bool → Bool) → Type 0) → Nodes → Type 0
LacksCounted n Values S = (v : ℕ) × (f : List Bool → Bool) × IsCounted n Values v f × ((r : Ref) → Has S r → Agree n (den S r) f → ⊥)

-- the cause of Full: the store has more nodes than its limit, or as many and lacks one that is counted
abbrev pub IsFullFor : ℕ → ((List Bool → Bool) → Type 0) → Nodes → Type 0
IsFullFor n Values S = (S.limit < count_of S) ⊎ ((count_of S ≡ S.limit) × LacksCounted n Values S)

-- the cause of a build's fault
abbrev pub IsBuildFault : ℕ → ((List Bool → Bool) → Type 0) → Nodes → WaveFault → Type 0
IsBuildFault n Values S wave_faults.OutOfMemory = Unit {0}
IsBuildFault n Values S wave_faults.NoWorker = Unit {0}
IsBuildFault n Values S wave_faults.TooManyRequests = Unit {0}
IsBuildFault n Values S wave_faults.Stopped = Unit {0}
IsBuildFault n Values S wave_faults.Full = IsFullFor n Values S

-- the store `new` is within its limit, or as before
abbrev pub IsStillWithin : Nodes → Nodes → Type 0
IsStillWithin old new = (count_of new ≤ new.limit) ⊎ (new ≡ old)

-- the functions whose diagrams netlists with their plans need, by n levels
abbrev pub IsPlannedValue : ℕ → List PlannedNet → (List Bool → Bool) → Type 0
IsPlannedValue n sides f = IsValueOf n (map levelled_of sides) f

-- f is the bit of level v
abbrev pub IsBitAt : ℕ → (List Bool → Bool) → Type 0
IsBitAt v f = (x : List Bool) → f x ≡ bit x v
