use Rattle.std.proofs.Common.{◌≡◌, ℕ, ◌<◌, get_or, length}
use Rattle.net_merge.specs.declared.pair_job.PairJob.{PairJob}
use Rattle.net_merge.specs.Merging.{IsJudged}
use Rattle.net_merge.proofs.batches.run_jobs.Given as goal

abbrev pub invariant-loop-place : goal.invariant-loop-place
invariant-loop-place g l = record {
  each : length l.jobs.items ≡ length l.fn.jobs.items;
  judged : (i : ℕ) (t : PairJob) → i < l.place → IsJudged l.on.graph.now (get_or l.jobs.items i t);
}
