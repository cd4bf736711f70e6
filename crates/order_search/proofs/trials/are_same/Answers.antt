use Rattle.std.proofs.Common.{◌≡◌, ◌≤◌, ◌∙◌, refl, sym, arith, [], length, below_more}
use Rattle.std.proofs.lemmas.List.{ext_get_or}
use Rattle.std.proofs.lemmas.Option.{get_or_from_slice_get}
use Rattle.std.proofs.lemmas.Slice.Eq.{bytes_eq-Decides}
use Rattle.order_search.proofs.trials.are_same.Goals as goal

pub loop-place-preserved : goal.loop-place-preserved
loop-place-preserved c =
    let here = c.loop-place.place in
    let same : c.at.result.now ≡ c.at-in-loop-place.result.now = (bytes_eq-Decides c.at.result.now c.at-in-loop-place.result.now).0 (sym c.is_same.ensures ∙ c.if-not-is_same.false) in
    below_more _ _ c.loop-place.invariant
    (get_or_from_slice_get c.args.names.now here c.at.result.now [] c.at.ensures ∙ same ∙ sym (get_or_from_slice_get c.args.others.now here c.at-in-loop-place.result.now [] c.at-in-loop-place.ensures))

pub returns : goal.returns
returns c =
    let end : length c.args.names.now ≤ c.loop-place.place = omega (arith, c.len-place-end.ensures.value, c.loop-place-test.false) in
    let lengths : length c.args.names.now ≡ length c.args.others.now = sym c.len.ensures.value ∙ c.if-len.false ∙ c.len-2.ensures.value in
    (λ _. ext_get_or [] c.args.names.now c.args.others.now lengths (λ k lt. c.loop-place.invariant k (omega (arith, lt, end))), λ _. refl)
