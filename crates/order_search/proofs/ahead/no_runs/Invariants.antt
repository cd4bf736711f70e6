use Rattle.std.proofs.Common.{◌≡◌, None, All, length}
use Rattle.order_search.proofs.ahead.no_runs.Given as goal

abbrev pub invariant-loop : goal.invariant-loop
invariant-loop l = record {
  each : length l.runs.items ≡ l.counter;
  none : All (λ run. run ≡ None) l.runs.items;
}
