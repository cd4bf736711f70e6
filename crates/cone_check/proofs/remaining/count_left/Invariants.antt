use Rattle.std.proofs.Common.{◌≡◌, ◌≤◌, take}
use Rattle.std.specs.Prelude.{count_by, is_some, not}
use Rattle.cone_check.proofs.remaining.count_left.Given as goal

abbrev pub invariant-loop-place : goal.invariant-loop-place
invariant-loop-place l = record {
  count : l.left ≡ count_by (λ o. not (is_some o)) (take l.place l.known);
  few : l.left ≤ l.place;
}
