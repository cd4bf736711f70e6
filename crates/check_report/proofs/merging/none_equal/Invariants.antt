use Rattle.std.proofs.Common.{◌≡◌, false, All, length}
use Rattle.check_report.proofs.merging.none_equal.Given as goal

abbrev pub invariant-loop : goal.invariant-loop
invariant-loop l = record {
  each : length l.equal.items ≡ l.counter;
  none : All (λ flag. flag ≡ false) l.equal.items;
}
