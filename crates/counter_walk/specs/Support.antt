-- The levels on which two functions depend.
use Rattle.std.specs.Prelude.{◌≡◌, ◌⊎◌, ◌↔◌, ℕ, ◌<◌, Bool, true, false, List, length, slice_index_or}
use Rattle.std.specs.HashSet.{contains}
use Rattle.dd_store.specs.declared.reference.Ref.{Ref}
use Rattle.dd_store.specs.Functions.{DependsOn}
use Rattle.dd_store.specs.Nodes.{Nodes}
use Rattle.dd_store.specs.Parts.{IsReachable}
use Rattle.dd_store.specs.Parts.Part.{node}
use Rattle.dd_store.specs.View.{part}
use Rattle.counter_walk.specs.declared.support.SupportWalk.{SupportWalk}
use Rattle.dd_store.specs.contracts.reference.ReferencePartialEq.TheImpl.{eq-value as ref_eq}

-- a bit for each of n levels, which is 1 exactly if one of the two functions depends on the level's bit
pub record IsSupportOf (n : ℕ) (f g : List Bool → Bool) (levels : List Bool) : Type 0 where
  pub each_level : length levels ≡ n
  pub marked : (v : ℕ) → v < n → (slice_index_or levels v false ≡ true) ↔ (DependsOn n v f ⊎ DependsOn n v g)

-- a node of this level is reached from r
abbrev pub HasNodeBelow : Nodes → Ref → ℕ → Type 0
HasNodeBelow S r v = (m : Ref) × (low : Ref) × (high : Ref) × IsReachable (part S) r m × (part S m ≡ node v low high)

-- the bit of the level is set
abbrev pub IsMarked : SupportWalk → ℕ → Type 0
IsMarked met v = slice_index_or met.levels.items v false ≡ true

-- the bit of each level of a node below r is set
abbrev pub AreMarkedBelow : Nodes → SupportWalk → Ref → Type 0
AreMarkedBelow S met r = (v : ℕ) → HasNodeBelow S r v → IsMarked met v

-- there is a bit for each level, and the bits of all levels below a visited reference are set
pub record IsSoundWalk (S : Nodes) (met : SupportWalk) : Type 0 where
  pub each_level : length met.levels.items ≡ S.levels
  pub seen : (r : Ref) → contains ref_eq.it met.seen r ≡ true → AreMarkedBelow S met r
