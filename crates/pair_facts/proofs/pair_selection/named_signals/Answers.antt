use Rattle.std.proofs.Common.{◌≡◌, ◌∙◌, ◌<◌, ℕ, Vec, [], ap, length, sym}
use Rattle.std.specs.declared.alloc.Global.{Global}
use Rattle.std.proofs.lemmas.Option.{get_or_from_slice_get}
use Rattle.net_bench.specs.Circuit.{circuit}
use Rattle.compare_built.specs.PairSelection.{is_picked, is_one_of}
use Rattle.compare_built.proofs.Picks.{filtered_no, filtered_yes}
use Rattle.pair_facts.proofs.pair_selection.named_signals.Goals as goal
use Rattle.pair_facts.proofs.pair_selection.named_signals.Goals.{then-is_picked+in_ok-push, else-is_picked}

pub loop-place-preserved : goal.loop-place-preserved
loop-place-preserved c =
    let p = is_one_of (circuit c.args.net.now) c.args.patterns.now c.args.kind in
    let x = c.index-signals-place.result in
    let low : c.loop-place.place < length c.args.signals.now = c.loop-place-test.true in
    let is : p x ≡ c.is_picked.result =
    ap (is_picked c.args.patterns.now c.args.kind) (get_or_from_slice_get c.args.net.now.names x c.name.result.now [] c.name.ensures.value) ∙ sym c.is_picked.ensures in
    elim c.if-is_picked.branch [
      | then-is_picked+in_ok-push w ↦
          filtered_yes p c.args.signals.now c.loop-place.place x c.loop-place.picked.items _ low c.index-signals-place.is (is ∙ w.if-is_picked.true) c.loop-place.invariant
          (ap (λ (v : Vec ℕ Global). v.items) w.picked-is ∙ w.in_ok-push.ensures.items)
      | else-is_picked w ↦
          filtered_no p c.args.signals.now c.loop-place.place x c.loop-place.picked.items _ low c.index-signals-place.is (is ∙ w.if-is_picked.false) c.loop-place.invariant
          (ap (λ (v : Vec ℕ Global). v.items) w.picked-is)
    ]
