use Rattle.std.proofs.Common.{◌≡◌, None, All, length}
use Rattle.cone_check.proofs.remaining.no_verdicts.Given as goal

abbrev pub invariant-loop : goal.invariant-loop
invariant-loop l = record {
  each : length l.known.items ≡ l.counter;
  none : All (λ o. o ≡ None) l.known.items;
}
