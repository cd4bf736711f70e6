use Rattle.std.proofs.Common.{◌≡◌, ◌++◌, map, take}
use Rattle.net_bench.proofs.build.variables_of.Given as goal

abbrev pub invariant-loop-register : goal.invariant-loop-register
invariant-loop-register l = l.variables.items ≡ l.inputs ++ map (λ g. g.out) (take l.register-index l.registers)
