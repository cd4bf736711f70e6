use Rattle.std.proofs.Common.{◌≡◌, ◌∙◌, ◌<◌, Vec, [], ap, length, sym}
use Rattle.std.specs.declared.alloc.Global.{Global}
use Rattle.std.proofs.lemmas.Option.{get_or_from_slice_get}
use Rattle.net_bench.specs.Circuit.{circuit}
use Rattle.compare_built.specs.declared.subject.Subject.{Subject}
use Rattle.compare_built.specs.PairSelection.{is_picked, is_pair_of}
use Rattle.compare_built.proofs.Picks.{filtered_no, filtered_yes}
use Rattle.pair_facts.proofs.pair_selection.named_subjects.Goals as goal
use Rattle.pair_facts.proofs.pair_selection.named_subjects.Goals.{then-is_picked+in_ok-push, else-is_picked}

pub loop-place-preserved : goal.loop-place-preserved
loop-place-preserved c =
    let p = is_pair_of (circuit c.args.net.now) c.args.patterns.now in
    let x = c.index-subjects-place.result in
    let low : c.loop-place.place < length c.args.subjects.now = c.loop-place-test.true in
    let is : p x ≡ c.is_picked.result =
    ap (is_picked c.args.patterns.now x.role) (get_or_from_slice_get c.args.net.now.names x.named c.name.result.now [] c.name.ensures.value) ∙ sym c.is_picked.ensures in
    elim c.if-is_picked.branch [
      | then-is_picked+in_ok-push w ↦
          filtered_yes p c.args.subjects.now c.loop-place.place x c.loop-place.picked.items _ low c.index-subjects-place.is (is ∙ w.if-is_picked.true) c.loop-place.invariant
          (ap (λ (v : Vec Subject Global). v.items) w.picked-is ∙ w.in_ok-push.ensures.items)
      | else-is_picked w ↦
          filtered_no p c.args.subjects.now c.loop-place.place x c.loop-place.picked.items _ low c.index-subjects-place.is (is ∙ w.if-is_picked.false) c.loop-place.invariant
          (ap (λ (v : Vec Subject Global). v.items) w.picked-is)
    ]
