use Rattle.std.proofs.Common.{arith, ◌∙◌}
use Rattle.net_order.specs.Order.{named}
use Rattle.net_order.proofs.Named.{one_more}
use Rattle.net_order.proofs.variables.add_names.Goals as goal

pub name-requires : goal.name-requires
name-requires c = grind (arith, c.requires c.loop-variable.variable-index c.variable-item.result c.loop-variable-test.true, c.variable-item.is)

pub loop-variable-preserved : goal.loop-variable-preserved
loop-variable-preserved c =
    one_more (named c.args.side.now) c.args.variables.now c.loop-variable.variable-index c.variable-item.result c.name.result.now c.loop-variable.table c.intern.new.self
    c.loop-variable-test.true c.variable-item.is c.name.ensures c.in_ok-intern.ensures.added ∙ c.loop-variable.invariant
