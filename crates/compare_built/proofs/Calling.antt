-- A verdict says that two functions are equal exactly if they agree wherever the condition holds.
use Rattle.std.proofs.Common.{ℕ, Bool, List}
use Rattle.std.specs.Prelude.{◌↔◌}
use Rattle.report_text.specs.declared.verdict.Verdict.{Verdict}
use Rattle.report_text.specs.declared.verdict.Verdict.TheVariants.{Equal, Differs, Unmatched, Undecided}
use Rattle.compare_built.specs.declared.verdict_order.Details.{Details}
use Rattle.compare_built.specs.Conditions.{AgreeWhere}
use Rattle.compare_built.specs.Report.{Compared, IsVerdictOf, CallsEqual}
use Rattle.compare_built.specs.Report.IsVerdictOf.{where_equal, where_different}

pub exact : (n : ℕ) (asked : Details) (holds : List Bool → Bool) (c : Compared) (v : Verdict) → IsVerdictOf n asked holds c v → CallsEqual v ↔ AgreeWhere n holds c.first c.second
exact n asked holds c (Equal role name shown) (where_equal agree size) = (λ _. agree, λ _. tt)
exact n asked holds c (Differs role name x first second shown) (where_different least size) = (λ called. absurd called, λ agree. absurd (least.differ (agree x least.bits least.satisfies)))
exact n asked holds c (Unmatched side role name) v = elim v [ ]
exact n asked holds c (Undecided role name) v = elim v [ ]
