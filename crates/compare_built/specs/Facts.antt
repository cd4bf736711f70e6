-- What is known of a pair before an attempt is made: a pattern at which it differs, or that its signals are equal
-- inside.
use Rattle.std.specs.Prelude.{◌<◌, ◌+◌, ℕ, Bool, false, List, length, Option, None}
use Rattle.net_bench.specs.Circuit.{Circuit}
use Rattle.net_order.specs.Order.{NamingModel}
use Rattle.net_patterns.specs.declared.patterns.Patterns.{Patterns}
use Rattle.net_patterns.specs.Differences.{IsShownBy}
use Rattle.net_patterns.specs.Patterns.{pattern_count, patterns_for}
use Rattle.report_text.specs.declared.verdict.Extras.{Extras}
use Rattle.report_text.specs.declared.verdict.Verdict.{Verdict}
use Rattle.report_text.specs.declared.verdict.Verdict.TheVariants.{Differs}
use Rattle.compare_built.specs.declared.subject.Subject.{Subject}
use Rattle.compare_built.specs.Conditions.{AgreeWhere, HoldsWhere, IsDifferenceWhere, everywhere}
use Rattle.compare_built.specs.Report.{AreFunctions, Compared}

-- The two functions of a pair agree at each assignment.
pub record IsEqualInside (a b : Circuit) (p : NamingModel) (s : Subject) : Type 0 where
  pub compared : Compared
  pub functions : AreFunctions a b p s compared
  pub agree : AgreeWhere (length p.names) everywhere compared.first compared.second

-- the patterns at which two netlists are evaluated, which depend only on the numbers of variables and gates
abbrev pub patterns_of : Circuit → Circuit → NamingModel → Patterns
patterns_of a b p = patterns_for (length p.names) (length a.gates + length b.gates)

-- the signals of a pair
abbrev pub signals_of : Subject → ℕ × ℕ
signals_of s = (s.first, s.second)

-- the pattern of this number shows that a pair differs
abbrev pub IsShownAt : Circuit → Circuit → Option Circuit → NamingModel → Subject → (number : ℕ) → Type 0
IsShownAt a b given p s number = IsShownBy a b given p (patterns_of a b p) (signals_of s) number

-- no pattern shows that a pair differs
abbrev pub IsUnshown : Circuit → Circuit → Option Circuit → NamingModel → Subject → Type 0
IsUnshown a b given p s = (number : ℕ) → number < pattern_count (patterns_of a b p) → IsShownAt a b given p s number → ⊥

-- what is reported besides a difference that may not be the least
abbrev pub shown_extras : Extras
shown_extras = record { least = false; support = None; sizes = None }

-- The verdict has an assignment at which the condition holds and the two functions differ. It may not be the least.
pub data IsShownDifference (n : ℕ) (holds : List Bool → Bool) (c : Compared) : Verdict → Type 0 where
  shown : {x : List Bool} → IsDifferenceWhere n holds c.first c.second x
      → IsShownDifference n holds c (Differs c.role c.name x (c.first x) (c.second x) shown_extras)

-- The same for a pair, whose functions are those of its signals.
pub record IsShownVerdict (a b : Circuit) (given : Option Circuit) (p : NamingModel) (s : Subject) (v : Verdict) : Type 0 where
  pub holds : List Bool → Bool
  pub condition : HoldsWhere given p holds
  pub compared : Compared
  pub functions : AreFunctions a b p s compared
  pub difference : IsShownDifference (length p.names) holds compared v
