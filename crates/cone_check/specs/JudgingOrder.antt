-- The order in which the pairs of a round are judged: first those that no pattern shows to differ, then the others.
use Rattle.std.specs.Prelude.{◌≡◌, ◌++◌, ◌==◌, if◌then◌else◌, ℕ, Bool, false, not, is_some, List, [], ◌∷◌, filter, length, slice_index_or, Option}
use Rattle.net_bench.specs.Circuit.{Circuit}
use Rattle.net_patterns.specs.declared.counterexample.ShownPattern.{ShownPattern}
use Rattle.compare_built.specs.declared.subject.Subject.{Subject}
use Rattle.pair_facts.specs.PairFacts.{IsWeightOrder}

-- the flag of a pair is added if its number is the next one, which is that of a pair that is judged itself
abbrev pub with_flag : (number : ℕ) → (shown : Bool) → (flags : List Bool) → List Bool
with_flag number shown flags = if number == length flags then flags ++ shown ∷ [] else flags

-- the flags after those of these pairs, which are given by their numbers and by the patterns that show them to differ
abbrev pub flags_after : List ℕ → List (Option ShownPattern) → (flags : List Bool) → List Bool
flags_after [] shown flags = flags
flags_after (number ∷ numbers) [] flags = flags
flags_after (number ∷ numbers) (pattern ∷ shown) flags = flags_after numbers shown (with_flag number (is_some pattern) flags)

-- a pattern shows that the pair at this place differs
abbrev pub is_shown : (flags : List Bool) → (place : ℕ) → Bool
is_shown flags place = slice_index_or flags place false

-- no pattern shows that the pair at this place differs
abbrev pub is_unshown : (flags : List Bool) → (place : ℕ) → Bool
is_unshown flags place = not (is_shown flags place)

-- first the places of pairs that no pattern shows to differ, then those of the others, each in the sequence that they had
abbrev pub unshown_first : (flags : List Bool) → (order : List ℕ) → List ℕ
unshown_first flags order = filter (is_unshown flags) order ++ filter (is_shown flags) order

-- The places of the pairs in two groups, each by falling weight: first those that no pattern shows to differ.
pub record IsJudgingOrder (a b : Circuit) (subjects : List Subject) (flags : List Bool) (places : List ℕ) : Type 0 where
  pub weighed : List ℕ
  pub falls : IsWeightOrder a b subjects weighed
  pub split : places ≡ unshown_first flags weighed
