use Rattle.std.proofs.Common.{◌≡◌, None, replicate}
use Rattle.net_patterns.proofs.differences.none_found.Given as goal

abbrev pub invariant-loop : goal.invariant-loop
invariant-loop l = l.found.items ≡ replicate l.counter None
