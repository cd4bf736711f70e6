-- What is known of pairs before an attempt is made, and their verdicts after the steps that need none, place by place.
use Rattle.std.specs.Prelude.{◌≡◌, ◌<◌, ℕ, All, Bool, true, false, List, length, slice_index_or, Option, Some, None}
use Rattle.std.specs.List.{AllZip}
use Rattle.net_bench.specs.Circuit.{Circuit, circuit}
use Rattle.net_order.specs.Order.{NamingModel, condition, name_of}
use Rattle.net_patterns.specs.declared.counterexample.ShownPattern.{ShownPattern}
use Rattle.report_text.specs.declared.verdict.Verdict.{Verdict}
use Rattle.report_text.specs.declared.verdict.Verdict.TheVariants.{Equal}
use Rattle.compare_built.specs.PairSelection.{ArePicked}
use Rattle.compare_built.specs.declared.subject.Subject.{Subject}
use Rattle.compare_built.specs.declared.task.Task.{Task}
use Rattle.order_search.specs.Tasks.{IsInTask}
use Rattle.pair_facts.specs.PairFacts.{IsFirstShown}
use Rattle.pair_facts.specs.declared.facts.PairFacts.{PairFacts}
use Rattle.cone_check.specs.ConeRounds.{IsEqualIf, IsShownElse, or_equal}

-- the first pattern that shows a pair to differ, if there is one
abbrev pub IsFirstShownIn : {H : Type 0} → Task H → NamingModel → Subject → Option ShownPattern → Type 0
IsFirstShownIn task p s shown = IsFirstShown (circuit task.first.now) (circuit task.second.now) (condition task.given) p s shown

-- the same for each pair of a list
abbrev pub AreFirstShown : {H : Type 0} → Task H → NamingModel → List Subject → List (Option ShownPattern) → Type 0
AreFirstShown task p subjects shown = AllZip (IsFirstShownIn task p) subjects shown

-- for each pair a flag, which is true only of a pair that is equal inside
abbrev pub AreEqualFlags : {H : Type 0} → Task H → NamingModel → List Subject → List Bool → Type 0
AreEqualFlags task p subjects equal = AllZip (IsEqualIf (circuit task.first.now) (circuit task.second.now) p) subjects equal

-- The selected pairs, the lines of unmatched signals, and the pattern that shows a difference of each pair, if there is
-- one.
pub record AreFacts {H : Type 0} (task : Task H) (p : NamingModel) (facts : PairFacts) : Type 0 where
  pub picked : ArePicked (circuit task.first.now) (circuit task.second.now) p task.settings.now.picked facts.subjects.items facts.unmatched_lines.items
  pub inside : All (IsInTask task) facts.subjects.items
  pub shown : AreFirstShown task p facts.subjects.items facts.shown.items

-- A pair is Equal if its flag is true, and has no verdict otherwise.
pub record AreOrEqual (a : Circuit) (subjects : List Subject) (equal : List Bool) (known : List (Option Verdict)) : Type 0 where
  pub each : length known ≡ length subjects
  pub places : (i : ℕ) (s : Subject) (e : Bool) → i < length subjects →
      slice_index_or known i None ≡ or_equal a (slice_index_or subjects i s) (slice_index_or equal i e) None

-- A pair keeps its verdict from before; if it had none, it has a difference if a pattern shows one.
pub record AreShownElse (a b : Circuit) (given : Option Circuit) (p : NamingModel) (subjects : List Subject) (shown : List (Option ShownPattern))
    (known new : List (Option Verdict)) : Type 0 where
  pub each : length new ≡ length known
  pub places : (i : ℕ) (s : Subject) (pattern : Option ShownPattern) → i < length subjects →
      IsShownElse a b given p (slice_index_or subjects i s) (slice_index_or shown i pattern) (slice_index_or known i None) (slice_index_or new i None)

-- each verdict that is known stays what it is
abbrev pub AreKept : (known new : List (Option Verdict)) → Type 0
AreKept known new = (i : ℕ) (v : Verdict) → slice_index_or known i None ≡ Some v → slice_index_or new i None ≡ Some v

-- the verdict of a pair that is equal inside
abbrev pub equal_verdict : Circuit → Subject → Verdict
equal_verdict a s = Equal s.role (name_of a s.named) None

-- each pair whose flag is true is known to be Equal
abbrev pub AreEqualKnown : Circuit → List Subject → (equal : List Bool) → (known : List (Option Verdict)) → Type 0
AreEqualKnown a subjects equal known = (i : ℕ) (s : Subject) → i < length subjects → slice_index_or equal i false ≡ true →
    slice_index_or known i None ≡ Some (equal_verdict a (slice_index_or subjects i s))

-- each pair whose flag is true is reported to be Equal, without a size
abbrev pub AreEqualReported : Circuit → List Subject → (equal : List Bool) → List Verdict → Type 0
AreEqualReported a subjects equal verdicts = (i : ℕ) (s : Subject) (v : Verdict) → i < length subjects → slice_index_or equal i false ≡ true →
    slice_index_or verdicts i v ≡ equal_verdict a (slice_index_or subjects i s)
