use Rattle.std.proofs.Common.{◌≡◌, length}
use Rattle.net_bench.specs.Symbols.{undefined_use}
use Rattle.net_bench.proofs.symbols.first_undefined.Given as goal

abbrev pub invariant-loop-used : goal.invariant-loop-used
invariant-loop-used l = undefined_use l.symbols l.rest ≡ undefined_use l.symbols l.uses

abbrev pub decreases-loop-used : goal.decreases-loop-used
decreases-loop-used l = length l.rest
