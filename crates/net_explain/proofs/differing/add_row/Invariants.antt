use Rattle.std.proofs.Common.{◌≡◌, ◌++◌, take}
use Rattle.std.specs.Prelude.{filter_map}
use Rattle.net_explain.specs.Explaining.{inner_at}
use Rattle.net_explain.proofs.differing.add_row.Given as goal

abbrev pub invariant-loop-place : goal.invariant-loop-place
invariant-loop-place l = l.found.items ≡ l.initial.found.items ++ filter_map (inner_at l.first l.second l.seen l.other) (take l.place l.row)
