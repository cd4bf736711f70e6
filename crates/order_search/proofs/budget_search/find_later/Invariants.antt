use Rattle.std.proofs.Common.{◌-◌, ◌≡◌, ◌<◌, ◌*◌, ◌^◌, ℕ}
use Rattle.compare_built.specs.declared.strategy.Candidate.{Candidate}
use Rattle.order_search.specs.Trials.{AreTrials, IsCandidateGivenUp}
use Rattle.order_search.proofs.budget_search.find_later.Given as goal

abbrev pub invariant-loop-budget : goal.invariant-loop-budget
invariant-loop-budget g l = record {
  trials : AreTrials l.task l.trials.items;
  power : (k : ℕ) × (l.budget ≡ 16384 * 32 ^ k) × ((j : ℕ) → j < k → (c : Candidate) → IsCandidateGivenUp l.task (16384 * 32 ^ j) (g.G.Monitor.bound l.monitor) c);
  more : 16384 < l.budget;
}

abbrev pub decreases-loop-budget : goal.decreases-loop-budget
decreases-loop-budget g l = l.limit - l.budget
