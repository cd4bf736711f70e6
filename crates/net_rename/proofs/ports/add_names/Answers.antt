use Rattle.std.proofs.Common.{◌∙◌, sym}
use Rattle.net_bench.specs.Circuit.{circuit}
use Rattle.net_order.specs.Order.{name_of}
use Rattle.net_order.proofs.Named.{name_is, one_more}
use Rattle.net_rename.proofs.ports.add_names.Goals as goal

pub loop-signal-preserved : goal.loop-signal-preserved
loop-signal-preserved c =
    let net = circuit c.args.net.now in
    one_more (name_of net) c.args.signals.now c.loop-signal.signal-index c.signal-item.result c.name.result.now c.loop-signal.table c.intern.new.self
    c.loop-signal-test.true c.signal-item.is (sym (name_is net c.signal-item.result c.name.result.now c.name.ensures.value)) c.in_ok-intern.ensures.added
    ∙ c.loop-signal.invariant
