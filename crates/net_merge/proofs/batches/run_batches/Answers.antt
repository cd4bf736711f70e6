use Rattle.std.proofs.Common.{ℕ, ◌<◌, subst}
use Rattle.std.specs.Prelude.{All}
use Rattle.net_merge.specs.declared.batches.ProbeBatch.{ProbeBatch}
use Rattle.net_merge.specs.Merging.{IsJudged}
use Rattle.net_merge.proofs.batches.run_batches.Goals as goal

pub returns : goal.returns
returns g c = λ i d low.
    let before = subst (λ (n : ℕ). i < n) c.for_each_mut.auto.s low in
    let at = (c.for_each_mut.ensures i d before).1 in
    subst (λ (b : ProbeBatch). All (IsJudged c.args.on.now.graph.now) b.jobs.items) at.left at.call
