use Rattle.std.proofs.Common.{◌≡◌, [], length}
use Rattle.cone_check.specs.Batches.{jobs_of, workers_of}
use Rattle.cone_check.proofs.Sharing.{SharedSoFar}
use Rattle.cone_check.proofs.batches.empty_batches.Given as goal

abbrev pub invariant-loop-place : goal.invariant-loop-place
invariant-loop-place l = record {
  each : length l.batches.items ≡ l.place;
  none : jobs_of l.batches.items ≡ [];
  workers : SharedSoFar l.workers l.count l.place (workers_of l.batches.items);
}
