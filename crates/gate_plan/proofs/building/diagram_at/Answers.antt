use Rattle.std.proofs.Common.{◌≡◌, ◌∙◌, ◌<◌, [], ap, sym, subst, get_or, length, List, Some}
use Rattle.std.specs.Prelude.{slice_get}
use Rattle.std.proofs.lemmas.List.{get_or_default}
use Rattle.dd_store.specs.declared.reference.Ref.{Ref}
use Rattle.gate_plan.proofs.Together.{at_place, there_place}
use Rattle.gate_plan.proofs.building.diagram_at.Goals as goal

pub returns : goal.returns
returns c =
    let xs = c.as_slice.result.now in
    let e : get_or c.args.list.now c.args.place [] ≡ xs = get_or_default c.args.list.now c.args.place [] c.index-list-place.result (there_place c.args.list.now c.args.place c.args.signal c.requires) ∙ sym c.index-list-place.is ∙ sym c.as_slice.ensures in
    let low : c.args.signal < length xs = subst (λ (z : List Ref). c.args.signal < length z) e c.requires in
    subst (λ (z : List Ref). slice_get z c.args.signal ≡ Some c.index-as_slice-number.result) (sym e)
    (at_place xs c.args.signal c.index-as_slice-number.result low (c.index-as_slice-number.is ∙ ap (λ k. get_or xs k c.index-as_slice-number.result) c.number.ensures))
