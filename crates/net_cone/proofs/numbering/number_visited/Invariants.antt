use Rattle.std.proofs.Common.{◌≡◌, ◌++◌, take}
use Rattle.std.specs.Prelude.{filter}
use Rattle.net_cone.specs.Walk.{IsNumbering, is_visited}
use Rattle.net_cone.proofs.numbering.number_visited.Given as goal

abbrev pub invariant-loop-place : goal.invariant-loop-place
invariant-loop-place l = record {
  numbered : IsNumbering l.from.items l.to;
  added : l.from.items ≡ l.initial.from.items ++ filter (is_visited l.seen) (take l.place l.signals);
}
