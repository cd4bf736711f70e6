use Rattle.std.proofs.Common.{◌≡◌, map, take}
use Rattle.net_bench.proofs.build.operands_of.Given as goal

abbrev pub invariant-loop-used : goal.invariant-loop-used
invariant-loop-used l = l.signals.items ≡ map (λ u. u.signal) (take l.used-index l.uses)
