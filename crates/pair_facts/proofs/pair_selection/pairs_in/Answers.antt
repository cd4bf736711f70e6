use Rattle.std.proofs.Common.{◌≡◌, ◌∙◌, ◌<◌, Vec, ap, arith, get_or, length}
use Rattle.std.specs.declared.alloc.Global.{Global}
use Rattle.std.proofs.lemmas.List.{get_or_default}
use Rattle.compare_built.specs.declared.subject.Subject.{Subject}
use Rattle.report_text.specs.declared.outcome.PairKind.TheVariants.{Output}
use Rattle.compare_built.proofs.Picks.{share_no, share_yes}
use Rattle.pair_facts.proofs.pair_selection.pairs_in.Goals as goal
use Rattle.pair_facts.proofs.pair_selection.pairs_in.Goals.{then-shares-place+in_ok-push, else-shares-place}

pub loop-place-preserved : goal.loop-place-preserved
loop-place-preserved c =
    let low : c.loop-place.place < length c.args.subjects.now = c.loop-place-test.true in
    elim c.if-shares-place.branch [
      | then-shares-place+in_ok-push w ↦
          let same : get_or c.args.shares.now c.loop-place.place 0 ≡ c.args.share = omega arith in
          share_yes c.args.share c.args.subjects.now c.args.shares.now c.loop-place.place w.index-subjects-place.result low c.requires w.index-subjects-place.is c.loop-place.pairs.items _ _ c.loop-place.invariant
          same (ap (λ (v : Vec Subject Global). v.items) w.pairs-is ∙ w.in_ok-push.ensures.items)
      | else-shares-place w ↦
          let s = get_or c.args.subjects.now c.loop-place.place (record { role = Output; named = 0; first = 0; second = 0 }) in
          share_no c.args.share c.args.subjects.now c.args.shares.now c.loop-place.place s low c.requires (get_or_default c.args.subjects.now c.loop-place.place _ s low) c.loop-place.pairs.items _ _ c.loop-place.invariant
          (λ same. omega arith) (ap (λ (v : Vec Subject Global). v.items) w.pairs-is)
    ]
