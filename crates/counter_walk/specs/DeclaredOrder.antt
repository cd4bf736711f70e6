-- The least difference in declared order. An assignment in declared order has a bit for each variable as declared; an
-- order has, for each level from the top, the place of its variable as declared.
use Rattle.std.specs.Prelude.{◌≡◌, ℕ, ◌<◌, Bool, false, List, map, length, slice_index, slice_index_or}
use Rattle.dd_store.specs.Functions.{IsLeastDifference}

-- each of n declared variables has one of n levels
pub record IsOrder (n : ℕ) (order : List ℕ) : Type 0 where
  pub each_level : length order ≡ n
  pub declared : (v : ℕ) → v < n → slice_index order v < n
  pub once : (u v : ℕ) → u < n → v < n → slice_index order u ≡ slice_index order v → u ≡ v

-- an assignment in declared order, as one by level
abbrev pub assignment_by_level : List ℕ → List Bool → List Bool
assignment_by_level order x = map (λ d. slice_index_or x d false) order

-- a function of the bits by level, as a function of the bits in declared order
abbrev pub by_declared : List ℕ → (List Bool → Bool) → List Bool → Bool
by_declared order f x = f (assignment_by_level order x)

-- The least assignment in declared order at which two functions of the bits by level differ.
abbrev pub IsLeastDifferenceDeclared : ℕ → List ℕ → (List Bool → Bool) → (List Bool → Bool) → List Bool → Type 0
IsLeastDifferenceDeclared n order f g x = IsLeastDifference n (by_declared order f) (by_declared order g) x
