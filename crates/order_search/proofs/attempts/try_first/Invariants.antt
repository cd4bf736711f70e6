use Rattle.std.proofs.Common.{◌<◌, ℕ, get_or}
use Rattle.compare_built.specs.declared.strategy.AttemptOrder.TheVariants.{Computed}
use Rattle.compare_built.specs.declared.strategy.Candidate.TheVariants.{MsbFirst}
use Rattle.order_search.specs.Trials.{AreGivenUpTrials, AreOfCandidates, IsTried}
use Rattle.order_search.proofs.Rounds.{candidates}
use Rattle.order_search.proofs.attempts.try_first.Given as goal

abbrev pub invariant-loop-candidate : goal.invariant-loop-candidate
invariant-loop-candidate g l = record {
  given_up : AreGivenUpTrials l.task l.budget (g.G.Monitor.bound l.monitor) l.all_full l.trials.items;
  of_candidates : AreOfCandidates l.trials.items;
  tried : (j : ℕ) → j < l.candidate-index → IsTried l.task l.trials.items (Computed (get_or candidates j MsbFirst));
}
