use Rattle.std.proofs.Common.{◌≡◌, [], drop}
use Rattle.net_order.specs.Unfit.{unfit_from}
use Rattle.net_order.proofs.unfit.unfit_among.Given as goal

abbrev pub invariant-loop-i : goal.invariant-loop-i
invariant-loop-i l = unfit_from l.variables l.before (drop l.i l.list) ≡ unfit_from l.variables [] l.list
