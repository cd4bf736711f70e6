use Rattle.std.proofs.Common.{◌≡◌, drop}
use Rattle.net_order.specs.Unfit.{first_missing}
use Rattle.net_order.proofs.unfit.first_missing.Given as goal

abbrev pub invariant-loop-place : goal.invariant-loop-place
invariant-loop-place l = first_missing (drop l.place l.variables) l.names ≡ first_missing l.variables l.names
