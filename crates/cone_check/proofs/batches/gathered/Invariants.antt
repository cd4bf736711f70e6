use Rattle.std.proofs.Common.{◌≡◌, ◌++◌}
use Rattle.cone_check.specs.Batches.{jobs_of}
use Rattle.cone_check.proofs.batches.gathered.Given as goal

abbrev pub invariant-loop-batch : goal.invariant-loop-batch
invariant-loop-batch l = l.jobs.items ++ jobs_of l.batch-iterator.rest.items ≡ jobs_of l.fn.batches.items
