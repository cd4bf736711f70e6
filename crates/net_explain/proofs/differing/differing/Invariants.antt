use Rattle.std.proofs.Common.{◌≡◌}
use Rattle.net_explain.specs.Explaining.{inner_to}
use Rattle.net_explain.proofs.differing.differing.Given as goal

abbrev pub invariant-loop-place : goal.invariant-loop-place
invariant-loop-place l = l.found.items ≡ inner_to l.first l.second l.seen l.other l.place
