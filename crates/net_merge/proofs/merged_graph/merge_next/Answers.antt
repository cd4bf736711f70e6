use Rattle.std.proofs.Common.{List, sym, subst, rules}
use Rattle.std.specs.Prelude.{IsTrue}
use Rattle.net_merge.specs.declared.batches.ProbeBatch.{ProbeBatch}
use Rattle.net_merge.specs.Merging.{AreJudged}
use Rattle.net_merge.proofs.merged_graph.merge_next.Goals as goal

pub merge_jobs-requires-clause-judged : goal.merge_jobs-requires-clause-judged
merge_jobs-requires-clause-judged g c =
    let some : IsTrue c.in_ok-some.some = search rules in
    subst (λ (batches : List ProbeBatch). AreJudged c.args.graph.now batches) (sym c.batches.ensures) (c.in_ok-some.ensures some)
