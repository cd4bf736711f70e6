use Rattle.std.proofs.Common.{◌≡◌, ◌++◌, ◌∙◌, length, sym, ap, subst, rules}
use Rattle.std.specs.Vec.{with_items}
use Rattle.std.proofs.lemmas.List.{with_items_is}
use Rattle.reduce_up.specs.AnswersByLevel.{joined}
use Rattle.reduce_up.specs.Division.{ArePicked}
use Rattle.reduce_up.specs.Steps.{AreAllPicked}
use Rattle.reduce_up.proofs.picking.pick_level.Goals as goal

pub join_picked-requires : goal.join_picked-requires
join_picked-requires g c =
    subst (AreAllPicked c.args.parts.now c.args.origins.now c.args.refs.now) (sym (with_items_is c.in_ok-tasks.tasks c.pick_each.new.tasks (search rules))) c.pick_each.ensures

pub returns : goal.returns
returns g c =
    let stored = with_items_is c.in_ok-tasks.tasks c.pick_each.new.tasks (search rules) in
    let added : c.add_all.new.own ≡ joined c.as_slice.result.now = c.in_ok-add_all.ensures ∙ ap (λ z. z ++ joined c.as_slice.result.now) c.in_ok-restart.ensures in
    let long : length (with_items c.in_ok-tasks.tasks c.pick_each.new.tasks).items ≡ length c.args.origins.now = search rules in (
      c.in_ok-picked.picked.items,
      subst (λ z. ArePicked c.args.parts.now c.args.origins.now c.args.refs.now z c.in_ok-picked.picked.items) long c.in_ok-picked.ensures,
      added ∙ ap joined c.as_slice.ensures.value,
    )
