use Rattle.std.proofs.Common.{List, sym, subst}
use Rattle.net_merge.specs.declared.batches.ProbeBatch.{ProbeBatch}
use Rattle.net_merge.specs.Merging.{AreJudged}
use Rattle.net_merge.proofs.merger.Merger.keep_jobs.Goals as goal

pub keep_shown-requires-clause-judged : goal.keep_shown-requires-clause-judged
keep_shown-requires-clause-judged g c =
    subst (λ (batches : List ProbeBatch). AreJudged c.args.graph.now batches) (sym c.as_slice-batches.ensures.value) c.requires.judged
