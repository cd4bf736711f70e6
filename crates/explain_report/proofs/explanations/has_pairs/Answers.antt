use Rattle.std.proofs.Common.{◌<◌, subst, arith}
use Rattle.net_bench.specs.Circuit.{circuit}
use Rattle.explain_report.specs.Explaining.{IsTargetIn}
use Rattle.explain_report.proofs.explanations.has_pairs.Goals as goal

pub returns-clause-known : goal.returns-clause-known
returns-clause-known c = λ e t (i, low, at).
    let below : i < c.loop-target.target-index = omega arith in
    subst (IsTargetIn (circuit c.args.net.now)) at (c.loop-target.invariant i t below)
