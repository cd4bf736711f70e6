-- Pairs that have the same cones: only one of them is judged, and the others take its verdict.
use Rattle.std.specs.Prelude.{◌≡◌, ◌⊎◌, ◌<◌, ◌++◌, ℕ, List, [], ◌∷◌, length, slice_index, slice_index_or, Option, Some, None, All, option_map}
use Rattle.std.specs.List.{AllZip}
use Rattle.net_bench.specs.Circuit.{Circuit, circuit}
use Rattle.net_order.specs.Order.{condition, name_of}
use Rattle.report_text.specs.declared.outcome.PairKind.{PairKind}
use Rattle.report_text.specs.declared.verdict.Verdict.{Verdict}
use Rattle.report_text.specs.declared.verdict.Verdict.TheVariants.{Equal, Differs, Unmatched, Undecided}
use Rattle.compare_built.specs.declared.subject.Subject.{Subject}
use Rattle.compare_built.specs.Cones.{AreCones}
use Rattle.cone_check.specs.declared.equal_cones.Distinct.{Distinct}
use Rattle.cone_check.specs.declared.pair_cones.ConeContext.{ConeContext}
use Rattle.cone_check.specs.ConeRounds.{AreKnownAtOnce, IsInContext, circuit_in}

-- Two pairs have the same cones, which are the same gates over the same variables.
pub record HaveSameCones {H : Type 0} (context : ConeContext H) (s t : Subject) : Type 0 where
  pub first : Circuit
  pub second : Circuit
  pub of_one : AreCones (circuit context.task.now.first.now) (circuit context.task.now.second.now) (condition context.task.now.given)
      context.naming.now s first second (circuit_in context.given.now)
  pub of_other : AreCones (circuit context.task.now.first.now) (circuit context.task.now.second.now) (condition context.task.now.given)
      context.naming.now t first second (circuit_in context.given.now)

-- the judged pair is this one, or has the same cones
abbrev pub IsJudgedFor : {H : Type 0} → ConeContext H → (judged s : Subject) → Type 0
IsJudgedFor context judged s = (judged ≡ s) ⊎ HaveSameCones context judged s

-- the judged pair of this number is judged for this pair
abbrev pub HasNumber : {H : Type 0} → ConeContext H → (judged : List Subject) → Subject → (number : ℕ) → Type 0
HasNumber context judged s number = (number < length judged) × ((t : Subject) → IsJudgedFor context (slice_index_or judged number t) s)

-- The judged pair of this number may be judged for this pair, too: it has the same cones, and no verdict is known at
-- once of either.
pub record MayShare {H : Type 0} (context : ConeContext H) (d : Distinct) (s : Subject) (one : Option Verdict) (number : ℕ) : Type 0 where
  pub unknown : one ≡ None
  pub judged_unknown : slice_index_or d.known.items number None ≡ None
  pub numbered : HasNumber context d.subjects.items s number

-- a verdict with another role and name
abbrev pub renamed_to : PairKind → (name : List ℕ) → Verdict → Verdict
renamed_to role name (Equal own_role own_name size) = Equal role name size
renamed_to role name (Differs own_role own_name x first second extras) = Differs role name x first second extras
renamed_to role name (Unmatched side own_role own_name) = Unmatched side role name
renamed_to role name (Undecided own_role own_name) = Undecided role name

-- the verdict of another pair with the role and name of this pair, if there is a verdict
abbrev pub verdict_for : Circuit → Subject → Option Verdict → Option Verdict
verdict_for a s known = option_map (renamed_to s.role (name_of a s.named)) known

-- One more pair is judged itself, with the verdict that is known of it at once.
pub record IsAdded (a : Circuit) (s : Subject) (one : Option Verdict) (old new : Distinct) : Type 0 where
  pub subjects : new.subjects.items ≡ old.subjects.items ++ s ∷ []
  pub known : new.known.items ≡ old.known.items ++ verdict_for a s one ∷ []
  pub numbers : new.numbers.items ≡ old.numbers.items ++ length old.subjects.items ∷ []

-- One more pair takes the verdict of the judged pair of this number.
pub record IsShared (number : ℕ) (old new : Distinct) : Type 0 where
  pub subjects : new.subjects.items ≡ old.subjects.items
  pub known : new.known.items ≡ old.known.items
  pub numbers : new.numbers.items ≡ old.numbers.items ++ number ∷ []

-- one more pair is judged itself, or takes the verdict of a judged pair with the same cones
abbrev pub IsDealt : {H : Type 0} → ConeContext H → Subject → Option Verdict → (old new : Distinct) → Type 0
IsDealt context s one old new = IsAdded (circuit context.task.now.first.now) s one old new
    ⊎ ((number : ℕ) × IsShared number old new × MayShare context old s one number)

-- Some of the pairs are judged, and each pair has the number of the one that is judged for it. The verdicts that are
-- known at once are kept: what is known of the judged pair of a number is what is known of each pair with this number,
-- with its own role and name. So a pair of which a verdict is known takes no verdict that has still to be found.
pub record AreDistinct {H : Type 0} (context : ConeContext H) (subjects : List Subject) (known : List (Option Verdict)) (d : Distinct)
    : Type 0 where
  pub in_range : All (IsInContext context) d.subjects.items
  pub at_once : AreKnownAtOnce context d.subjects.items d.known.items
  pub numbers : AllZip (HasNumber context d.subjects.items) subjects d.numbers.items
  pub kept : (i : ℕ) (s : Subject) → i < length subjects →
      slice_index_or d.known.items (slice_index d.numbers.items i) None ≡
      verdict_for (circuit context.task.now.first.now) (slice_index_or subjects i s) (slice_index_or known i None)

-- each pair of which a verdict is known has this verdict, with its own role and name
abbrev pub AreKnownVerdictsFor : Circuit → List Subject → (known all : List (Option Verdict)) → Type 0
AreKnownVerdictsFor a subjects known all = (i : ℕ) (s : Subject) (v : Verdict) → i < length subjects → slice_index_or known i None ≡ Some v →
    slice_index_or all i None ≡ verdict_for a (slice_index_or subjects i s) (Some v)

-- Each pair has the verdict of the pair that was judged for it, with its own role and name.
pub record AreVerdictsFor (a : Circuit) (found : List (Option Verdict)) (subjects : List Subject) (numbers : List ℕ) (all : List (Option Verdict)) : Type 0 where
  pub each : length all ≡ length subjects
  pub places : (i : ℕ) (s : Subject) → i < length subjects →
      slice_index_or all i None ≡ verdict_for a (slice_index_or subjects i s) (slice_index_or found (slice_index numbers i) None)
