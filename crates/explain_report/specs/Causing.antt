-- Causes: the first inner signals that differ, which pairs have in common.
use Rattle.std.specs.Prelude.{◌≡◌, ◌<◌, ℕ, ◌==◌, Bool, true, false, List, [], ◌∷◌, ◌++◌, map, filter, if◌then◌else◌, Option, None}
use Rattle.std.specs.Prelude.{IsSomeAnd, length, option_map, option_to_list, slice_get, slice_index_or, zip}
use Rattle.std.specs.List.{list_any}
use Rattle.std.specs.declared.alloc.Global.{Global}
use Rattle.std.specs.declared.vec.Vec.{Vec}
use Rattle.net_bench.specs.Circuit.{Circuit, IsNet, Net, circuit}
use Rattle.net_explain.specs.declared.differing.InnerSignal.{InnerSignal}
use Rattle.net_explain.specs.Explaining.{ExplanationModel, IsExplanation}
use Rattle.net_order.specs.Order.{NamingModel}
use Rattle.report_text.specs.declared.cause.PairName.{PairName}
use Rattle.report_text.specs.declared.verdict.Verdict.{Verdict}
use Rattle.report_text.specs.declared.verdict.Verdict.TheVariants.{Equal, Differs, Unmatched, Undecided}
use Rattle.report_text.specs.Causes.{Caused}
use Rattle.report_text.specs.Lines.{Found}
use Rattle.explain_report.specs.declared.first_differences.FirstDifference.{FirstDifference}
use Rattle.compare_built.specs.declared.strategy.Attempt.{Attempt}
use Rattle.compare_built.specs.declared.settings.Settings.{Settings}
use Rattle.compare_built.specs.declared.subject.Subject.{Subject}
use Rattle.compare_built.specs.Devices.{DeviceTexts}
use Rattle.compare_built.specs.PairSelection.{ArePicked}
use Rattle.explain_report.specs.Explaining.{HaveReportedNaming}

-- ---- the first inner signal that differs

-- a pair with this first inner signal
abbrev pub first_difference : PairName → InnerSignal → FirstDifference
first_difference t inner = record { pair = t; inner = inner }

-- a pair with the first of its inner signals that differ at the assignment; None if none does
abbrev pub IsPairFirstDifference : Net → Net → NamingModel → PairName → List Bool → Subject → Option FirstDifference → Type 0
IsPairFirstDifference a b p t at s difference = (e : ExplanationModel) × IsExplanation a b p (s.first, s.second) at e
    × (difference ≡ option_map (first_difference t) (slice_get e.inner 0))

-- the same for a pair with its verdict; None if the pair does not differ
abbrev pub IsFirstDifference : Net → Net → NamingModel → Subject → Verdict → Option FirstDifference → Type 0
IsFirstDifference a b p s (Equal role name size) difference = difference ≡ None
IsFirstDifference a b p s (Differs role name at first second extras) difference =
    let t : PairName = record { role = role; name = name } in IsPairFirstDifference a b p t at s difference
IsFirstDifference a b p s (Unmatched side role name) difference = difference ≡ None
IsFirstDifference a b p s (Undecided role name) difference = difference ≡ None

-- these are all such pairs, in the order of the verdicts
abbrev pub AreFirstDifferences : Net → Net → NamingModel → List (Subject × Verdict) → List FirstDifference → Type 0
AreFirstDifferences a b p [] differences = differences ≡ []
AreFirstDifferences a b p (x ∷ xs) differences = (one : Option FirstDifference) × (rest : List FirstDifference) × IsFirstDifference a b p x.0 x.1 one
    × AreFirstDifferences a b p xs rest × (differences ≡ option_to_list one ++ rest)

-- the first inner signal of a pair is a signal of the first netlist
abbrev pub IsSignalKnown : Net → FirstDifference → Type 0
IsSignalKnown a l = l.inner.first < length a.names

-- ---- causes

-- this is the first inner signal of the pair
abbrev pub has_first_signal : ℕ → FirstDifference → Bool
has_first_signal signal l = l.inner.first == signal

-- the cause that an inner signal is, with the pairs that have it as their first
abbrev pub cause_of : List (List ℕ) → List FirstDifference → InnerSignal → Caused
cause_of names differences i =
    record {
      signal = slice_index_or names i.first [];
      first_line = i.first_line;
      second_line = i.second_line;
      pairs = map (λ one. one.pair) (filter (has_first_signal i.first) differences);
    }

-- an inner signal, unless it is that of one of the pairs before
abbrev pub first_time : (before : List FirstDifference) → InnerSignal → List InnerSignal
first_time before i = if list_any (has_first_signal i.first) before then [] else i ∷ []

-- the first inner signals of pairs after others, each only once, where it first comes
abbrev pub first_signals : (before : List FirstDifference) → List FirstDifference → List InnerSignal
first_signals before [] = []
first_signals before (l ∷ ls) = first_time before l.inner ++ first_signals (before ++ l ∷ []) ls

-- the causes of pairs, in the order of the first pair of each
abbrev pub causes_of : List (List ℕ) → List FirstDifference → List Caused
causes_of names differences = map (cause_of names differences) (first_signals [] differences)

-- these are the causes of the pairs that differ
abbrev pub AreCausesOf : Net → Net → NamingModel → List (Subject × Verdict) → List Caused → Type 0
AreCausesOf a b p judged list = (differences : List FirstDifference) × AreFirstDifferences a b p judged differences
    × (list ≡ causes_of a.names differences)

-- ---- causes in a report

-- the settings pick these pairs, in this order
abbrev pub ArePickedPairs : Circuit → Circuit → NamingModel → Settings → List Subject → Type 0
ArePickedPairs a b p s pairs = (unmatched_lines : List Verdict) × ArePicked a b p s.picked pairs unmatched_lines

-- These are the causes of the findings: for the pairs of the netlists that the devices gave, at the assignments of the verdicts.
pub record HaveCauses (input : DeviceTexts) (s : Settings) (tried : Option Attempt) (found : Found) (list : List Caused) : Type 0 where
  pub a : Net
  pub b : Net
  pub c : Option Circuit
  pub p : NamingModel
  -- their ranks, which order inner signals, are those of their gates
  pub first_sound : IsNet a
  pub second_sound : IsNet b
  pub named : HaveReportedNaming input s tried (circuit a) (circuit b) c p
  -- the bits of an assignment are those of the variables of this naming
  pub variables : found.variables ≡ p.names
  -- the verdict at a place is that of the picked pair at this place; after them come those of outputs and registers
  -- without a partner
  pub pairs : List Subject
  pub picked : ArePickedPairs (circuit a) (circuit b) p s pairs
  pub differences : List FirstDifference
  pub are_first_differences : AreFirstDifferences a b p (zip pairs found.verdicts) differences
  pub causes : list ≡ causes_of a.names differences

-- the causes that a report has, if they are asked for
abbrev pub AreCauses : (asked : Bool) → DeviceTexts → Settings → Option Attempt → Found → Option (List Caused) → Type 0
AreCauses false input s tried found causes = causes ≡ None
AreCauses true input s tried found causes = IsSomeAnd causes (HaveCauses input s tried found)

-- causes in the form that a comparison returns
abbrev pub Causes : Type 0
Causes = Vec Caused Global

-- these as a list, if there are any
abbrev pub causes_in : Option Causes → Option (List Caused)
causes_in causes = option_map (λ (v : Causes). v.items) causes
