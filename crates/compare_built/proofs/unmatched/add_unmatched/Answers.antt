use Rattle.std.proofs.Common.{◌<◌, length, arith}
use Rattle.net_bench.specs.Circuit.{circuit}
use Rattle.compare_built.proofs.Adding.{unmatched_next}
use Rattle.compare_built.proofs.unmatched.add_unmatched.Goals as goal

pub loop-signal-preserved : goal.loop-signal-preserved
loop-signal-preserved c =
    let lt : c.loop-signal.signal-index < length c.args.signals.now = omega arith in
    unmatched_next (circuit c.args.net.now) c.args.side c.args.role c.args.signals.now c.loop-signal.signal-index c.signal-item.result c.name.result.now _ _ _ lt c.signal-item.is c.name.ensures.value
    c.loop-signal.invariant (rw (← c.in_ok-name.ensures) c.in_ok-push.ensures.items)
