use Rattle.std.proofs.Common.{◌∙◌, ℕ, List, Bool, [], ap, sym}
use Rattle.std.proofs.lemmas.Option.{get_or_from_slice_get}
use Rattle.net_bench.specs.Circuit.{circuit}
use Rattle.net_order.specs.Order.{name_of}
use Rattle.compare_built.specs.PairSelection.{is_picked_by}
use Rattle.compare_built.proofs.Picks.{none_more, one_has}
use Rattle.compare_built.proofs.named_signals.picks_one.Goals as goal

pub returns-then-is_picked_by : goal.returns-then-is_picked_by
returns-then-is_picked_by c =
    let p : List ℕ → Bool = λ n. is_picked_by c.args.kind n c.args.pattern.now in
    sym (one_has p (name_of (circuit c.args.net.now)) c.args.signals.now c.loop-signal.signal-index c.signal-item.result c.loop-signal-test.true c.signal-item.is
    (ap p (get_or_from_slice_get c.args.net.now.names c.signal-item.result c.name.result.now [] c.name.ensures.value) ∙ sym c.is_picked_by.ensures ∙ c.if-is_picked_by.true))

pub loop-signal-preserved : goal.loop-signal-preserved
loop-signal-preserved c =
    let p : List ℕ → Bool = λ n. is_picked_by c.args.kind n c.args.pattern.now in
    none_more p (name_of (circuit c.args.net.now)) c.args.signals.now c.loop-signal.signal-index c.signal-item.result c.loop-signal-test.true c.signal-item.is c.loop-signal.invariant
    (ap p (get_or_from_slice_get c.args.net.now.names c.signal-item.result c.name.result.now [] c.name.ensures.value) ∙ sym c.is_picked_by.ensures ∙ c.if-is_picked_by.false)
