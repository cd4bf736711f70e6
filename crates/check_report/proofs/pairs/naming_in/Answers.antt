use Rattle.std.proofs.Common.{subst, sym}
use Rattle.net_names.specs.declared.order.Order.TheVariants.{Declared}
use Rattle.order_search.specs.Trials.{IsNamingIn}
use Rattle.check_report.proofs.pairs.naming_in.Goals as goal

pub returns-clause-naming : goal.returns-clause-naming
returns-clause-naming g c = subst (IsNamingIn c.args.task.now Declared) (sym c.naming.ensures) c.requires.naming
