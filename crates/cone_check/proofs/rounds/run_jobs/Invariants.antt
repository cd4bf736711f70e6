use Rattle.std.proofs.Common.{◌≡◌, ℕ, ◌<◌, ◌≤◌, get_or, length}
use Rattle.cone_check.specs.declared.batches.PairJob.{PairJob}
use Rattle.cone_check.specs.Batches.{IsJobDone}
use Rattle.cone_check.proofs.rounds.run_jobs.Given as goal

abbrev pub invariant-loop-place : goal.invariant-loop-place
invariant-loop-place g l = record {
  each : length l.jobs.items ≡ length l.fn.jobs.items;
  made : (i : ℕ) (t : PairJob) → i < l.place → IsJobDone l.context l.budget (g.G.Monitor.bound l.monitor) (get_or l.fn.jobs.items i t) (get_or l.jobs.items i t);
  rest : (i : ℕ) (t : PairJob) → l.place ≤ i → get_or l.jobs.items i t ≡ get_or l.fn.jobs.items i t;
}
