use Rattle.std.proofs.Common.{[], set, ap, sym, ◌∙◌, arith}
use Rattle.std.proofs.lemmas.List.{set-get_or, set-set}
use Rattle.expand_work.specs.Work.{at}
use Rattle.expand_work.proofs.Cutting.{cut_less}
use Rattle.expand_work.proofs.Sending.{sending-none, sending-more, bundle-may, bundle-leave}
use Rattle.expand_work.proofs.send.send_asks.Goals as goal

pub loop-asks-init : goal.loop-asks-init
loop-asks-init g c = (sending-none c.args.port.now c.args.to (at c.args.due.now c.args.to), sym (set-get_or c.args.due.now c.args.to []))

pub send_bundle-requires-clause-may : goal.send_bundle-requires-clause-may
send_bundle-requires-clause-may g c = bundle-may c.args.lanes.now c.args.port.now c.loop-asks.port c.args.to (at c.args.due.now c.args.to) (at c.loop-asks.due c.args.to) c.in-Some.asks (at c.take.new.self c.args.to) c.requires.may c.loop-asks.invariant.0 c.in-Some.ensures.bundle

pub send_bundle-requires-clause-leave : goal.send_bundle-requires-clause-leave
send_bundle-requires-clause-leave g c = bundle-leave c.args.lanes.now c.args.port.now c.loop-asks.port c.args.to (at c.args.due.now c.args.to) (at c.loop-asks.due c.args.to) c.in-Some.asks (at c.take.new.self c.args.to) c.requires.may c.loop-asks.invariant.0 c.in-Some.ensures.bundle

pub loop-asks-smaller : goal.loop-asks-smaller
loop-asks-smaller g c =
    let cut = c.in-Some.ensures.bundle in
    let less = cut_less (at c.loop-asks.due c.args.to) c.in-Some.asks (at c.take.new.self c.args.to) cut in
    let some = cut.some in omega (arith, less, some)

pub loop-asks-preserved : goal.loop-asks-preserved
loop-asks-preserved g c = (
  sending-more c.args.lanes.now c.args.port.now c.loop-asks.port c.args.to (at c.args.due.now c.args.to) (at c.loop-asks.due c.args.to) c.in-Some.asks (at c.take.new.self c.args.to) c.requires.may c.loop-asks.invariant.0 c.in-Some.ensures.bundle
      c.send_bundle.new.port c.in_ok-send_bundle.ensures,
  c.take.ensures.rest ∙ ap (λ d. set d c.args.to (at c.take.new.self c.args.to)) c.loop-asks.invariant.1 ∙ set-set c.args.due.now c.args.to (at c.loop-asks.due c.args.to) (at c.take.new.self c.args.to),
)
