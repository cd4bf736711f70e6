use Rattle.net_bench.specs.Circuit.{circuit}
use Rattle.net_order.specs.declared.walk.OperandOrder.TheVariants.{Written}
use Rattle.net_order.specs.Order.{below, met}
use Rattle.net_order.proofs.Members.{met_low, met_members}
use Rattle.net_order.proofs.Walks.{no_output}
use Rattle.net_order.proofs.walk.met.Goals as goal

pub returns-clause-known : goal.returns-clause-known
returns-clause-known c =
    met_low c.args.net.now c.in_ok-ordered_net.ensures.ordered_net.sound c.loop-root.found.items
    (no_output (below Written (circuit c.args.net.now)) c.as_slice-roots.result.now c.loop-root.found.items (met (circuit c.args.net.now)) c.loop-root.root-index c.loop-root-test.false c.loop-root.invariant.rest)

pub returns-clause-variables : goal.returns-clause-variables
returns-clause-variables c =
    met_members c.args.net.now c.in_ok-ordered_net.ensures.ordered_net.sound c.loop-root.found.items
    (no_output (below Written (circuit c.args.net.now)) c.as_slice-roots.result.now c.loop-root.found.items (met (circuit c.args.net.now)) c.loop-root.root-index c.loop-root-test.false c.loop-root.invariant.rest)
