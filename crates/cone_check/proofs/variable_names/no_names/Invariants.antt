use Rattle.std.proofs.Common.{◌≡◌, length}
use Rattle.cone_check.proofs.variable_names.no_names.Given as goal

abbrev pub invariant-loop : goal.invariant-loop
invariant-loop l = length l.names.items ≡ l.counter
