use Rattle.std.proofs.Common.{◌≡◌, ◌∙◌, inl, inr, ◌<◌, subst, sym, get_or, length, arith}
use Rattle.std.specs.Prelude.{Contains}
use Rattle.std.proofs.lemmas.List.{get_or_default}
use Rattle.std.proofs.lemmas.Bool.{cases_lt}
use Rattle.net_cone.specs.Walk.{IsVisited}
use Rattle.net_cone.proofs.Walking.{contained_at}
use Rattle.net_cone.proofs.below.visit_all.Goals as goal

pub loop-place-preserved : goal.loop-place-preserved
loop-place-preserved c =
    let low : c.loop-place.place < length c.args.signals.now = c.loop-place-test.true in
    let s = c.index-signals-place.result in
    record {
      here = λ k d less. elim (cases_lt k c.loop-place.place) [
        | inl before ↦ c.in_ok-visit.ensures.kept (get_or c.args.signals.now k d) (c.loop-place.invariant.here k d before)
        | inr on ↦
            let same : c.loop-place.place ≡ k = omega arith in
            subst (λ j. IsVisited c.visit.new.seen (get_or c.args.signals.now j d)) same
            (subst (IsVisited c.visit.new.seen) (c.index-signals-place.is ∙ get_or_default c.args.signals.now c.loop-place.place s d low) c.in_ok-visit.ensures.signal_visited)
      ];
      kept = λ t was. c.in_ok-visit.ensures.kept t (c.loop-place.invariant.kept t was);
      only = λ t now. elim (c.in_ok-visit.ensures.new_ones_wait t now) [
        | inl was ↦ elim (c.loop-place.invariant.only t was) [
          | inl before ↦ inl before
          | inr (among, waits) ↦ inr (among, c.in_ok-visit.ensures.waiting t waits)
        ]
        | inr (is, waits) ↦ inr (subst (Contains c.args.signals.now) (sym c.index-signals-place.is ∙ sym is) (contained_at c.args.signals.now c.loop-place.place s low), waits)
      ];
      waiting = λ t before. c.in_ok-visit.ensures.waiting t (c.loop-place.invariant.waiting t before);
      visited = λ all. c.in_ok-visit.ensures.visited (c.loop-place.invariant.visited all);
      steps = c.in_ok-visit.ensures.steps ∙ c.loop-place.invariant.steps;
    }
