-- What is known of pairs before an attempt is made, and the order of pairs by the size of their cones.
use Rattle.std.specs.Prelude.{◌<◌, ℕ, List, length, slice_index, Option}
use Rattle.std.specs.List.{AllZip}
use Rattle.std.specs.List.Sorted.{IsPermutation}
use Rattle.net_bench.specs.Circuit.{Circuit}
use Rattle.net_order.specs.Force.{numbers_below}
use Rattle.net_order.specs.Order.{NamingModel}
use Rattle.net_patterns.specs.declared.counterexample.ShownPattern.{ShownPattern}
use Rattle.net_patterns.specs.Choices.{IsFirstWith}
use Rattle.net_patterns.specs.Differences.{HasFirstValue, IsDifferenceWith}
use Rattle.net_patterns.specs.Patterns.{pattern, pattern_count}
use Rattle.compare_built.specs.declared.subject.Subject.{Subject}
use Rattle.compare_built.specs.Facts.{IsShownAt, patterns_of, signals_of}
use Rattle.compare_built.specs.PairSelection.{ComesBefore, HasWeight}

-- These are the places of the pairs by falling weight.
pub record IsWeightOrder (a b : Circuit) (pairs : List Subject) (order : List ℕ) : Type 0 where
  pub weights : List ℕ
  pub weighed : AllZip (HasWeight a b) pairs weights
  pub places : IsPermutation (numbers_below (length weights)) order
  pub falls : (t u : ℕ) → t < u → u < length order → ComesBefore weights (slice_index order t) (slice_index order u)

-- The pattern shows that a pair differs, and the pair's first signal has this value there.
abbrev pub IsShownWith : Circuit → Circuit → Option Circuit → NamingModel → Subject → ShownPattern → Type 0
IsShownWith a b given p s shown = IsDifferenceWith a b given p (signals_of s) (pattern (patterns_of a b p) shown.number) shown.first

-- This is the first pattern that shows that a pair differs, with the value of the pair's first signal there. There is
-- none only if no pattern shows that the pair differs.
abbrev pub IsFirstShown : Circuit → Circuit → Option Circuit → NamingModel → Subject → Option ShownPattern → Type 0
IsFirstShown a b given p s shown =
    IsFirstWith (IsShownAt a b given p s) (HasFirstValue a p (patterns_of a b p) (signals_of s)) (pattern_count (patterns_of a b p)) shown
