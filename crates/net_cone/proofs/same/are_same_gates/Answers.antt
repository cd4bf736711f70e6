use Rattle.std.proofs.Common.{◌≡◌, ◌∙◌, ◌<◌, arith, below_more, length, sym}
use Rattle.std.proofs.lemmas.List.{ext_get_or, get_or_default}
use Rattle.net_cone.proofs.Numbered.{no_gate}
use Rattle.net_cone.proofs.same.are_same_gates.Goals as goal

pub loop-place-preserved : goal.loop-place-preserved
loop-place-preserved c =
    let here = c.loop-place.place in
    let each = c.loop-place.invariant.each in
    let low : here < length c.args.ones.now = c.loop-place-test.true in
    let less : here < length c.args.others.now = omega (arith, low, each) in
    let same : c.index-ones-place.result ≡ c.index-others-place.result = c.is_same_gate.ensures c.if-not-is_same_gate.false in
    record {
      each = each;
      same = below_more _ _ c.loop-place.invariant.same
          (sym (get_or_default c.args.ones.now here c.index-ones-place.result no_gate low) ∙ sym c.index-ones-place.is ∙ same ∙ c.index-others-place.is ∙
          get_or_default c.args.others.now here c.index-others-place.result no_gate less);
    }

pub returns : goal.returns
returns c =
    let end = c.loop-place-test.false in
    λ _. ext_get_or no_gate c.args.ones.now c.args.others.now c.loop-place.invariant.each (λ k lt. c.loop-place.invariant.same k (omega (arith, lt, end)))
