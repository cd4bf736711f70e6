use Rattle.std.proofs.Common.{List, [], ap, ◌∙◌, subst, sym, ◌<◌, ◌∷◌, ◌++◌, length, map, arith, set, Vec, Global, length-append}
use Rattle.gate_plan.specs.Plans.{AddsAt}
use Rattle.gate_plan.proofs.Lists.{added_in, added_next}
use Rattle.gate_plan.proofs.steps.add_at.Goals as goal
use Rattle.gate_plan.proofs.steps.add_at.Goals.{then-place-len+in_ok-push, else-place-len}

pub returns : goal.returns
returns g c =
    let row = λ (v : Vec g.row.T.Denot Global). v.items in
    let new : List (List g.row.T.Denot) = map row (set c.if-place-len.lists.items c.args.place c.push-2.new.self) in
    let bound : c.args.place < length c.if-place-len.lists.items =
    elim c.if-place-len.branch [
      | then-place-len+in_ok-push w ↦ subst (λ z. c.args.place < length z) (sym (ap (λ z. z.items) w.lists-is ∙ w.in_ok-push.ensures.items)) (simp length-append (omega arith))
      | else-place-len w ↦ subst (λ z. c.args.place < length z.items) (sym w.lists-is) (omega arith)
    ] in
    let within : AddsAt (map row c.if-place-len.lists.items) c.args.place c.args.item new =
    added_in row c.if-place-len.lists.items c.args.place c.push-2.new.self c.index_mut.result.now c.args.item bound (c.in_ok-push-2.ensures.items ∙ ap (λ z. row z ++ c.args.item ∷ []) c.index_mut.ensures.value) in
    elim c.if-place-len.branch [
      | then-place-len+in_ok-push w ↦ added_next row c.args.lists.now.items c.args.place w.new.result c.args.item new (omega arith) w.new.ensures.items (subst (λ z. AddsAt (map row z) c.args.place c.args.item new) (ap (λ z. z.items) w.lists-is ∙ w.in_ok-push.ensures.items) within)
      | else-place-len w ↦ subst (λ z. AddsAt (map row z.items) c.args.place c.args.item new) w.lists-is within
    ]
