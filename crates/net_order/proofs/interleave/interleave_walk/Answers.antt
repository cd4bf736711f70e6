use Rattle.std.proofs.Common.{◌∙◌, ◌<◌, sym, subst}
use Rattle.std.specs.Prelude.{slice_index, length}
use Rattle.net_order.proofs.Interleaving.{met_low, rest_more}
use Rattle.net_order.proofs.interleave.interleave_walk.Goals as goal

pub add-requires-clause-low : goal.add-requires-clause-low
add-requires-clause-low c =
    subst (λ k. c.at-variable.result < k) (sym c.loop-signal.invariant.len)
    (met_low (slice_index c.args.variables.now) (length c.args.seen.now.items) c.args.met.now c.loop-signal.signal-index c.signal-item.result c.at-variable.result c.loop-signal-test.true c.signal-item.is c.at-variable.ensures c.requires.low)

pub loop-signal-preserved : goal.loop-signal-preserved
loop-signal-preserved c = record {
  visited = c.in_ok-add.ensures.visited;
  len = c.in_ok-add.ensures.len ∙ c.loop-signal.invariant.len;
  rest = rest_more (slice_index c.args.variables.now) c.args.met.now c.loop-signal.signal-index c.signal-item.result c.at-variable.result c.loop-signal-test.true c.signal-item.is c.at-variable.ensures
      c.loop-signal.order.items c.add.new.order.items _ c.loop-signal.last c.in_ok-add.ensures.added c.loop-signal.invariant.rest;
}
