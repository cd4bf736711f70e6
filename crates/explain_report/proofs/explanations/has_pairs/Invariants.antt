use Rattle.std.proofs.Common.{ℕ, ◌<◌, get_or}
use Rattle.net_bench.specs.Circuit.{circuit}
use Rattle.report_text.specs.declared.cause.PairName.{PairName}
use Rattle.explain_report.specs.Explaining.{IsTargetIn}
use Rattle.explain_report.proofs.explanations.has_pairs.Given as goal

-- those before are known
abbrev pub invariant-loop-target : goal.invariant-loop-target
invariant-loop-target l = (k : ℕ) (t : PairName) → k < l.target-index → IsTargetIn (circuit l.net) (get_or l.targets k t)
