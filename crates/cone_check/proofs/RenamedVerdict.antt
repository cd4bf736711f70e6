-- Verdicts with the role and name of another pair that has the same functions.
use Rattle.std.proofs.Common.{ℕ, Bool, List}
use Rattle.report_text.specs.declared.outcome.PairKind.{PairKind}
use Rattle.report_text.specs.declared.verdict.Verdict.{Verdict}
use Rattle.compare_built.specs.declared.verdict_order.Details.{Details}
use Rattle.compare_built.specs.Facts.{IsShownDifference}
use Rattle.compare_built.specs.Facts.IsShownDifference.{shown}
use Rattle.compare_built.specs.Report.{Compared, IsVerdictOf}
use Rattle.compare_built.specs.Report.IsVerdictOf.{where_equal, where_different}
use Rattle.cone_check.specs.EqualCones.{renamed_to}

-- the same functions with this role and name
abbrev pub compared_as : PairKind → List ℕ → Compared → Compared
compared_as role name c = record { role = role; name = name; first = c.first; second = c.second }

pub verdict_renamed_to : (n : ℕ) (asked : Details) (holds : List Bool → Bool) (c : Compared) (role : PairKind) (name : List ℕ) (v : Verdict) → IsVerdictOf n asked holds c v →
    IsVerdictOf n asked holds (compared_as role name c) (renamed_to role name v)
verdict_renamed_to n asked holds c role name v (where_equal agree size) = where_equal agree size
verdict_renamed_to n asked holds c role name v (where_different least more) = where_different least more

pub shown_renamed_to : (n : ℕ) (holds : List Bool → Bool) (c : Compared) (role : PairKind) (name : List ℕ) (v : Verdict) → IsShownDifference n holds c v →
    IsShownDifference n holds (compared_as role name c) (renamed_to role name v)
shown_renamed_to n holds c role name v (shown at) = shown at
