-- What a limit on nodes is for a comparison: a bound on the nodes that the netlists and their pairs need, in any store.
use Rattle.std.specs.Prelude.{◌≡◌, ℕ, ◌<◌, ◌≤◌, ◌⊎◌, Bool, List, Option, Some, None, length, slice_index, Contains}
use Rattle.dd_store.specs.Functions.{Agree}
use Rattle.dd_store.specs.Nodes.{Nodes, den, IsSound, count_of}
use Rattle.dd_store.specs.View.{part, Has}
use Rattle.net_bench.specs.Circuit.{Circuit}
use Rattle.net_bench.specs.Labels.{IsFunctionOf}
use Rattle.net_names.specs.declared.order.Match.{Match}
use Rattle.net_names.specs.declared.order.Order.{Order}
use Rattle.net_order.specs.Order.{NamingModel}
use Rattle.gate_plan.specs.Need.{IsLean, IsComplete}
use Rattle.gate_plan.specs.Needing.{IsNeededValue}
use Rattle.compare_built.specs.Devices.{DeviceTexts}
use Rattle.compare_built.specs.declared.subject.Subject.{Subject}
use Rattle.compare_built.specs.Check.{ArePaired}
use Rattle.compare_built.specs.Conditions.{HoldsWhere, restricted}
use Rattle.compare_built.specs.Report.{subjects}

-- f is the function of one of the two signals of a pair
abbrev pub IsFunctionIn : Circuit → Circuit → NamingModel → Subject → (List Bool → Bool) → Type 0
IsFunctionIn a b p subject f = IsFunctionOf a (slice_index p.first) (length p.names) subject.first f
    ⊎ IsFunctionOf b (slice_index p.second) (length p.names) subject.second f

-- f is the function of a signal of a pair, restricted to the condition
pub record IsComparedValue (a b : Circuit) (given : Option Circuit) (p : NamingModel) (f : List Bool → Bool) : Type 0 where
  pub holds : List Bool → Bool
  pub condition : HoldsWhere given p holds
  pub subject : Subject
  pub among : Contains (subjects a b p) subject
  pub whole : List Bool → Bool
  pub function : IsFunctionIn a b p subject whole
  pub restriction : Agree (length p.names) f (restricted holds whole)

-- the functions whose diagrams a comparison needs: those of the build and, if there is a condition, those of the pairs
-- restricted to it
abbrev pub IsNeededIn : Circuit → Circuit → Option Circuit → NamingModel → (List Bool → Bool) → Type 0
IsNeededIn a b None p f = IsNeededValue a b None p f
IsNeededIn a b (Some c) p f = IsNeededValue a b (Some c) p f ⊎ IsComparedValue a b (Some c) p f

-- each node of the store is needed, for its function or for the complement
abbrev pub HasOnlyNeeded : Circuit → Circuit → Option Circuit → NamingModel → Nodes → Type 0
HasOnlyNeeded a b given p S = IsLean (length p.names) (IsNeededIn a b given p) (part S) (Has S) (den S)

-- the store has each node that is needed
abbrev pub HasAllNeeded : Circuit → Circuit → Option Circuit → NamingModel → Nodes → Type 0
HasAllNeeded a b given p S = IsComplete (length p.names) (IsNeededIn a b given p) (part S) (Has S) (den S)

-- the store has exactly the nodes that are needed, and no more than its limit
pub record HasAll (a b : Circuit) (given : Option Circuit) (p : NamingModel) (S : Nodes) : Type 0 where
  pub lean : HasOnlyNeeded a b given p S
  pub complete : HasAllNeeded a b given p S
  pub within : count_of S ≤ S.limit

-- the store has only nodes that are needed; it has more than its limit, or as many and lacks one that is needed
pub record IsOver (a b : Circuit) (given : Option Circuit) (p : NamingModel) (S : Nodes) : Type 0 where
  pub lean : HasOnlyNeeded a b given p S
  pub over : (S.limit < count_of S) ⊎ ((count_of S ≡ S.limit) × (HasAllNeeded a b given p S → ⊥))

-- some ordered and reduced store has exactly the nodes that are needed, and no more than the limit
pub record FitsWithin (limit : ℕ) (a b : Circuit) (given : Option Circuit) (p : NamingModel) : Type 0 where
  pub store : Nodes
  pub sound : IsSound store
  pub levels : store.levels ≡ length p.names
  pub lean : HasOnlyNeeded a b given p store
  pub complete : HasAllNeeded a b given p store
  pub within : count_of store ≤ limit

-- some ordered and reduced store has only nodes that are needed; it has more than the limit, or as many and lacks one
-- that is needed
pub record Exceeds (limit : ℕ) (a b : Circuit) (given : Option Circuit) (p : NamingModel) : Type 0 where
  pub store : Nodes
  pub sound : IsSound store
  pub levels : store.levels ≡ length p.names
  pub lean : HasOnlyNeeded a b given p store
  pub over : (limit < count_of store) ⊎ ((count_of store ≡ limit) × (HasAllNeeded a b given p store → ⊥))

-- the devices gave netlists that have a pairing, and the nodes that these need are within the limit
abbrev pub AreWithin : DeviceTexts → Match → Order → (limit : ℕ) → Type 0
AreWithin input how order limit = (a b : Circuit) × (c : Option Circuit) × (p : NamingModel) × ArePaired input how order a b c p
    × FitsWithin limit a b c p

-- the devices gave netlists that have a pairing, and the nodes that these need are not within the limit
abbrev pub AreBeyond : DeviceTexts → Match → Order → (limit : ℕ) → Type 0
AreBeyond input how order limit = (a b : Circuit) × (c : Option Circuit) × (p : NamingModel) × ArePaired input how order a b c p
    × Exceeds limit a b c p
