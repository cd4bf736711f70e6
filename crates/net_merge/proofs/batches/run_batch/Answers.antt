use Rattle.std.proofs.Common.{sym, subst}
use Rattle.std.specs.Prelude.{All, List}
use Rattle.std.proofs.lemmas.List.Elements.{All-nil}
use Rattle.net_merge.specs.declared.pair_job.PairJob.{PairJob}
use Rattle.net_merge.specs.Merging.{IsJudged}
use Rattle.net_merge.proofs.batches.run_batch.Goals as goal

pub returns-in-Err : goal.returns-in-Err
returns-in-Err g c =
    subst (λ (jobs : List PairJob). All (IsJudged c.args.on.now.graph.now) jobs) (sym c.refuse.ensures) (All-nil (IsJudged c.args.on.now.graph.now))
