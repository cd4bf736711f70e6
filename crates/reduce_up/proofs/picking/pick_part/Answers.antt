use Rattle.std.proofs.Common.{◌+◌, ◌<◌, ◌≤◌, length, get_or, sym, ◌∙◌, subst, arith}
use Rattle.std.proofs.lemmas.List.{get_or_default}
use Rattle.std.specs.Prelude.{OnOk}
use Rattle.dd_store.specs.Levels.{list_at}
use Rattle.reduce_up.specs.Division.{chosen, source, AreOrigins, IsPickedOf}
use Rattle.expand_work.proofs.Teams.{first_of}
use Rattle.reduce_up.proofs.Joined.{pick_room, picked_from}
use Rattle.reduce_up.proofs.picking.pick_part.Goals as goal
use Rattle.reduce_up.proofs.picking.pick_part.Goals.{After-index-origins-part}

-- the part has an origin for each of its requests
module _ (c : After-index-origins-part) where
  there : c.args.part < length c.args.parts.now
  there = let e = c.requires.may.many in let kh = c.requires.part in omega (arith, e, kh)

  are : AreOrigins c.index-origins-part.result (list_at (get_or c.args.parts.now c.args.part (first_of c.args.parts.now (omega (arith, there)))).items)
  are =
      let p = first_of c.args.parts.now (omega (arith, there)) in
      subst (λ z. AreOrigins z (list_at (get_or c.args.parts.now c.args.part p).items)) (sym c.index-origins-part.is) (c.requires.may.origins_of c.args.part p c.index-origins-part.result c.requires.part)

pub pick-requires-clause-origins : goal.pick-requires-clause-origins
pick-requires-clause-origins c = (are (goal.at.pick-requires-clause-origins c).After-index-origins-part).within

pub pick-requires-clause-room : goal.pick-requires-clause-room
pick-requires-clause-room c =
    let w = (goal.at.pick-requires-clause-room c).After-index-origins-part in
    let h = c.index-origins-part.result in
    λ s l. subst (λ z. get_or z s 0 + length (chosen s h.numbers.items h.numbers.items) ≤ length (source c.args.refs.now h s)) (sym c.as_slice.ensures.value)
    (subst (λ z. z + length (chosen s h.numbers.items h.numbers.items) ≤ length (source c.args.refs.now h s)) (sym (c.in_ok-starts.ensures.starts s l))
    (pick_room c.args.parts.now c.args.refs.now c.args.part h _ (there w) c.requires.may.sixteen c.requires.may.refs_of (are w) s l))

pub returns : goal.returns
returns c = λ hd.
    let h = c.index-origins-part.result in
    subst (λ z. OnOk c.pick.result (IsPickedOf c.args.parts.now c.args.refs.now c.args.part z c.pick.new.answers)) (c.index-origins-part.is ∙ get_or_default c.args.origins.now c.args.part h hd c.requires.part)
    (picked_from c.args.parts.now c.args.refs.now c.args.part h c.in_ok-starts.starts.items c.in_ok-starts.ensures.starts c.as_slice.result.now c.as_slice.ensures.value c.pick.new.answers c.pick.result c.pick.ensures)
