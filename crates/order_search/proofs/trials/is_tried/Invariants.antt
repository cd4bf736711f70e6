use Rattle.std.proofs.Common.{◌≢◌, All, take}
use Rattle.order_search.specs.declared.trials.Trial.{Trial}
use Rattle.order_search.proofs.trials.is_tried.Given as goal

abbrev pub invariant-loop-trial : goal.invariant-loop-trial
invariant-loop-trial l = All (λ (t : Trial). t.pairing.names ≢ l.names) (take l.trial-index l.trials)
