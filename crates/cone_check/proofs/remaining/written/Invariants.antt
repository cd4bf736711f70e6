use Rattle.std.proofs.Common.{◌≡◌, ◌<◌, All, length}
use Rattle.cone_check.specs.declared.batches.PairJob.{PairJob}
use Rattle.cone_check.specs.Batches.{written}
use Rattle.cone_check.proofs.remaining.written.Given as goal

abbrev pub invariant-loop-job : goal.invariant-loop-job
invariant-loop-job l = record {
  low : All (λ (t : PairJob). t.place < length l.all.items) l.job-iterator.rest.items;
  same : written l.all.items l.job-iterator.rest.items ≡ written l.fn.known.items l.fn.jobs.items;
}
