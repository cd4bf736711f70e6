use Rattle.std.proofs.Common.{rules}
use Rattle.net_bench.specs.Circuit.{circuit}
use Rattle.net_order.specs.Order.{both, condition, given_side}
use Rattle.net_order.proofs.Unfitting.{unfit_none}
use Rattle.net_order.proofs.unfit.unfit_name.Goals as goal

pub returns-in-Ok-unfit_among-clause-none : goal.returns-in-Ok-unfit_among-clause-none
returns-in-Ok-unfit_among-clause-none c =
    unfit_none (both c.args.how (circuit c.args.first.now) (circuit c.args.second.now)) (given_side (condition c.args.given)) c.args.list.now c.in-Ok-unfit_among.unfit (search rules)
