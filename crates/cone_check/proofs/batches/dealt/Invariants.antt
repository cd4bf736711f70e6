use Rattle.std.proofs.Common.{◌≡◌, length, take}
use Rattle.cone_check.specs.Batches.{AreJobsFor, ShareWorkers, jobs_of, workers_of}
use Rattle.cone_check.proofs.batches.dealt.Given as goal

abbrev pub invariant-loop-position : goal.invariant-loop-position
invariant-loop-position l = record {
  each : length l.batches.items ≡ l.count;
  workers : ShareWorkers l.workers (workers_of l.batches.items);
  jobs : AreJobsFor l.subjects (take l.position l.places) (jobs_of l.batches.items);
}
