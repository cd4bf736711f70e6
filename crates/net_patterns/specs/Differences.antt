-- Assignments at which two signals differ.
use Rattle.std.specs.Prelude.{◌≡◌, ◌<◌, ◌⊎◌, ℕ, Bool, true, not, List, length, Option, Some, None, slice_index, slice_index_or, ⊤}
use Rattle.net_bench.specs.Circuit.{Circuit}
use Rattle.net_bench.specs.Labels.{Computes}
use Rattle.net_order.specs.Order.{NamingModel, first_level, second_level, given_level}
use Rattle.dd_store.specs.Functions.{Before}
use Rattle.net_patterns.specs.declared.counterexample.Counterexample.{Counterexample}
use Rattle.net_patterns.specs.declared.counterexample.ShownPattern.{ShownPattern}
use Rattle.net_patterns.specs.declared.patterns.Patterns.{Patterns}
use Rattle.net_patterns.specs.Choices.{IsFirstWith}
use Rattle.net_patterns.specs.Patterns.{pattern}

-- the condition holds at an assignment: its output is 1 there. If there is no condition, it holds everywhere.
abbrev pub HoldsAt : Option Circuit → NamingModel → List Bool → Type 0
HoldsAt None p x = ⊤
HoldsAt (Some c) p x = Computes c (given_level p) (slice_index c.outputs 0) x true

-- The assignment is a difference of the pair: the condition holds, and the functions of the two signals, one of each netlist, differ.
pub record IsDifferenceAt (a b : Circuit) (given : Option Circuit) (p : NamingModel) (pair : ℕ × ℕ) (x : List Bool) : Type 0 where
  pub bits : length x ≡ length p.names
  pub holds : HoldsAt given p x
  pub value : Bool
  pub first : Computes a (first_level p) pair.0 x value
  pub second : Computes b (second_level p) pair.1 x (not value)

-- the same with the value of the first signal's function there; the second's is the complement
abbrev pub IsDifferenceWith : Circuit → Circuit → Option Circuit → NamingModel → ℕ × ℕ → List Bool → (first : Bool) → Type 0
IsDifferenceWith a b given p pair x first = IsDifferenceAt a b given p pair x × Computes a (first_level p) pair.0 x first

-- A counterexample of a pair: an assignment at which it differs, with the value of its first signal.
abbrev pub IsCounterexample : Circuit → Circuit → Option Circuit → NamingModel → ℕ × ℕ → Counterexample → Type 0
IsCounterexample a b given p pair e = IsDifferenceWith a b given p pair e.at.items e.first

-- the condition has an output
abbrev pub HasOutput : Circuit → Type 0
HasOutput c = 0 < length c.outputs

-- both are signals of their netlists
abbrev pub IsPairOf : Circuit → Circuit → ℕ × ℕ → Type 0
IsPairOf a b pair = (pair.0 < length a.names) × (pair.1 < length b.names)

-- pattern number n is a difference of the pair
abbrev pub IsShownBy : Circuit → Circuit → Option Circuit → NamingModel → Patterns → ℕ × ℕ → ℕ → Type 0
IsShownBy a b given p patterns pair n = IsDifferenceAt a b given p pair (pattern patterns n)

-- the first signal of the pair has this value at pattern number n
abbrev pub HasFirstValue : Circuit → NamingModel → Patterns → ℕ × ℕ → ℕ → Bool → Type 0
HasFirstValue a p patterns pair n first = Computes a (first_level p) pair.0 (pattern patterns n) first

-- For each pair, the first of so many patterns that is a difference of it, with the value of its first signal there;
-- None only if none of them is.
pub record AreFirst (a b : Circuit) (given : Option Circuit) (p : NamingModel) (patterns : Patterns) (count : ℕ) (pairs : List (ℕ × ℕ))
    (found : List (Option ShownPattern)) : Type 0 where
  pub each : length found ≡ length pairs
  pub first : (k : ℕ) (d : ℕ × ℕ) → k < length pairs →
      IsFirstWith (IsShownBy a b given p patterns (slice_index_or pairs k d)) (HasFirstValue a p patterns (slice_index_or pairs k d)) count (slice_index_or found k None)

-- y is x, or comes before it if levels are read from the top, 0 before 1; the least difference is the first in this order
abbrev pub IsNotAfter : List Bool → List Bool → Type 0
IsNotAfter y x = (y ≡ x) ⊎ Before y x

-- y is a counterexample too, and does not come after x
pub record MakesSmaller (a b : Circuit) (given : Option Circuit) (p : NamingModel) (pair : ℕ × ℕ) (x y : Counterexample) : Type 0 where
  pub difference : IsCounterexample a b given p pair y
  pub order : IsNotAfter y.at.items x.at.items

-- y is x, or the candidate c, which then comes before x
abbrev pub IsLesser : (x c y : Counterexample) → Type 0
IsLesser x c y = (y ≡ x) ⊎ ((y ≡ c) × Before y.at.items x.at.items)
