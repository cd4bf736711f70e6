use Rattle.std.proofs.Common.{◌≡◌, ◌+◌, ℕ, All, None, get_or, take, true, false}
use Rattle.order_search.specs.declared.trials.Trial.{Trial}
use Rattle.order_search.specs.Ahead.{IsRunAt}
use Rattle.order_search.specs.Trials.{AreTrials, HasOtherTrial, IsGivenUpFor, NeedsMore}
use Rattle.order_search.proofs.attempts.try_in_sequence.Given as goal

abbrev pub invariant-loop-place : goal.invariant-loop-place
invariant-loop-place g l = record {
  trials : AreTrials l.task l.trials.items;
  kept : l.trials.items ≡ l.fn.trials.items;
  causes : All (λ (t : Trial). IsGivenUpFor l.task l.budget (g.G.Monitor.bound l.monitor) t.pairing) (take l.place l.trials.items);
  nodes : l.all_full ≡ true → All (λ (t : Trial). NeedsMore l.task l.budget t.pairing) (take l.place l.trials.items);
  runs : (i k : ℕ) → k ≡ l.place + i → IsRunAt l.task l.declared l.budget (g.G.Monitor.bound l.monitor) l.trials.items k (get_or l.runs.items i None);
  others : l.all_full ≡ false → HasOtherTrial l.task l.budget (g.G.Monitor.bound l.monitor) l.trials.items;
}
